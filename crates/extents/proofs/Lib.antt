pub mod Search
pub mod Examples
