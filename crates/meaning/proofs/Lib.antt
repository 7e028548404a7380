pub mod Shells
pub mod Rows
pub mod Within
