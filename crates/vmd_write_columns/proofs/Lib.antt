pub mod Names
pub mod Writing
pub mod Filling
