pub mod Indices
pub mod Picks
pub mod Stores
