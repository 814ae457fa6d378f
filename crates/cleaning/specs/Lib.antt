pub mod Operation
pub mod Sets
pub mod Cleaning
