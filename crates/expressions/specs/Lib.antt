pub mod Answers
pub mod Pairs
pub mod Lists
pub mod Products
pub mod Parts
