pub mod Adding
pub mod Columns
pub mod Directions
pub mod Storing
pub mod Greatest
pub mod Examples
