pub mod Writes
pub mod Digits
pub mod Stepping
pub mod Lines
pub mod Comparing
pub mod Parts
