pub mod Fitting
pub mod Stages
