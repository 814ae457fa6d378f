pub mod Range
pub mod Accepted
pub mod Listed
pub mod Written
pub mod Examples
