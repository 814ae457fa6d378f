pub mod Putting
pub mod Reaches
pub mod Arriving
