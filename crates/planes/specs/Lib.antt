pub mod Bits
pub mod MaskBits
pub mod Bytes
pub mod Planes
