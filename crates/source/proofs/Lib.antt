pub mod Chains
pub mod Cuts
pub mod Scanning
pub mod Spelling
