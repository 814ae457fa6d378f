pub mod Image
pub mod Rules
pub mod Frame
pub mod Grid
pub mod Share
