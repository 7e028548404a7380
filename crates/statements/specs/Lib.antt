pub mod Frames
pub mod Domains
pub mod Ready
