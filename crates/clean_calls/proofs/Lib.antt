pub mod Accepted
pub mod Packed
pub mod Working
