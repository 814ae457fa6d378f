pub mod Ranges
pub mod FlatRows
pub mod Whole
pub mod Values
pub mod Sizing
pub mod Tails
