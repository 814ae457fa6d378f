pub mod Spacing
pub mod Shadows
pub mod BitEnds
pub mod Marking
pub mod Examples
