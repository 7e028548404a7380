pub mod Settling
pub mod Checked
mod Operands
mod Branching
mod Ranging
mod Turning
mod Flowing
