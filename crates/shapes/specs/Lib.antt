pub mod Shape
pub mod Plan
pub mod Listed
pub mod Calls
