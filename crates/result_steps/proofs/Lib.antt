pub mod Rooms
pub mod Behind
pub mod Reading
