pub mod Completing
pub mod Pools
pub mod Opening
