pub mod Signs
pub mod Parted
pub mod Behind
