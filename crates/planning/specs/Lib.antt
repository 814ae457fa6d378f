pub mod Planning
pub mod Printer
