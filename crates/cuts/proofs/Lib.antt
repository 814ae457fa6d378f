pub mod CutRows
pub mod OnGrids
pub mod Examples
