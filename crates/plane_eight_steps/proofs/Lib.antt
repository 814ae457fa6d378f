pub mod EightBits
pub mod Halves
