pub mod Indexing
pub mod Picking
pub mod Storing
