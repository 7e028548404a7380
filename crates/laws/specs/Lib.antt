pub mod Fitting
pub mod Reads
pub mod Laws
pub mod Keeps
pub mod Accepted
