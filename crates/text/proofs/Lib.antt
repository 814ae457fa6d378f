pub mod Lines
pub mod Readings
pub mod Pages
pub mod Examples
