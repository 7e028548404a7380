pub mod Assigns
pub mod Declares
pub mod Stores
