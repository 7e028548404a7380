pub mod Along
pub mod Collects
pub mod Fitting
pub mod Grids
pub mod Matrices
pub mod Parts
pub mod Sums
