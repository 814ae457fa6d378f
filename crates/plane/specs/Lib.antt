pub mod Lists
pub mod Point
pub mod Extent
