pub mod Tests
pub mod Algebra
pub mod Member
pub mod Bits
pub mod Integer
pub mod Extents
pub mod Examples
