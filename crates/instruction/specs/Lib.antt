pub mod Fields
pub mod Operators
pub mod Forms
