pub mod Showing
pub mod Kept
pub mod Answering
