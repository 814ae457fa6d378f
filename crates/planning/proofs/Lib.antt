pub mod Decided
pub mod Printed
pub mod Once
pub mod Examples
