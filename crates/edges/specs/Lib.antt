pub mod Edges
pub mod Numbers
