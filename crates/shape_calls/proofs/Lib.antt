pub mod Reading
pub mod Turning
pub mod Writing
pub mod Calls
pub mod Examples
