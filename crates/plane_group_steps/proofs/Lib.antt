pub mod PackBits
pub mod Grouping
pub mod Fits
pub mod TopRow
