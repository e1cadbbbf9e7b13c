pub mod Names
pub mod Checks
