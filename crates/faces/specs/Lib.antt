pub mod Faces
pub mod Bits
