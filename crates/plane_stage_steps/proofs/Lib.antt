pub mod TrimBits
pub mod Padding
pub mod Bounding
pub mod PlaneStage
