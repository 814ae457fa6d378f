pub mod Positions
pub mod Apart
pub mod Examples
