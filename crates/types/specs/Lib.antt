pub mod Types
pub mod Decoding
pub mod Typings
