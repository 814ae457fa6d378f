pub mod Levels
pub mod MaskBits
pub mod Bitting
pub mod WholeBytes
pub mod Views
pub mod OnGrids
pub mod Sizing
pub mod Examples
