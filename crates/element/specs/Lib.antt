pub mod Cells
pub mod Elements
pub mod Brief
pub mod Steps
pub mod Matrices
pub mod Operands
