pub mod Alternating
pub mod Ending
