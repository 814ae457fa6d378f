pub mod Cutting
pub mod Levels
pub mod Running
