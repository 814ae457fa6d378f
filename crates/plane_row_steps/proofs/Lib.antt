pub mod MaskColumns
pub mod RowPasses
pub mod Readings
pub mod Rooms
