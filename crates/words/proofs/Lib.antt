pub mod Refusals
pub mod Words
pub mod Examples
pub mod Kept
pub mod Passing
pub mod Tested
