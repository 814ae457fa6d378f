pub mod Reader
pub mod Page
