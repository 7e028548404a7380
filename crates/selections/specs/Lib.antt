pub mod Choices
pub mod Equalities
pub mod Strides
