pub mod Cells
pub mod Leaves
