pub mod Masks
pub mod HeldRows
