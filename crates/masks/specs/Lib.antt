pub mod Mask
pub mod Chain
