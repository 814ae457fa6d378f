pub mod Fields
pub mod Joined
pub mod Summed
pub mod Written
pub mod Alike
pub mod Held
pub mod Listed
pub mod Examples
