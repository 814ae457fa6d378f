pub mod Plans
pub mod Tree
pub mod Asking
