pub mod Casts
pub mod Exact
pub mod Faults
pub mod Laws
pub mod Truths
