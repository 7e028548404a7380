mod Filling
mod Choosing
pub mod Sheets
mod Expressing
