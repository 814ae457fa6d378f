pub mod EndPlanes
