pub mod Ends
pub mod PartLevels
