pub mod Ground
pub mod Word
pub mod Read
