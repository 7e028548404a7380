mod Writing
pub mod Pairing
pub mod Listing
mod Prefixing
mod Multiplying
pub mod Bounding
mod Building
