pub mod Sides
pub mod Accepted
pub mod Looked
pub mod Behind
