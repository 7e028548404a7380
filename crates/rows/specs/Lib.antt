pub mod Changing
pub mod States
pub mod Working
