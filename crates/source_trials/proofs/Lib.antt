pub mod ReadBack
pub mod Repeating
