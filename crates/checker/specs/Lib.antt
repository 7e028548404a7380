pub mod Blocks
pub mod Judge
pub mod Stack
pub mod Sheets
pub mod Structure
