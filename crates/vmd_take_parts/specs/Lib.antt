pub mod Split
pub mod Passing
pub mod Columns
