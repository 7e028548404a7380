pub mod Changing
pub mod Choosing
pub mod Casting
pub mod Same
pub mod Shaping
pub mod Streaming
pub mod Reaching
pub mod Staying
