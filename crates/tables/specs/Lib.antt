pub mod Frames
pub mod Lent
pub mod Outputs
pub mod Shapes
