pub mod Reaches
pub mod Answers
pub mod Trying
pub mod Marking
pub mod Lengths
pub mod Asked
pub mod Questions
pub mod Examples
