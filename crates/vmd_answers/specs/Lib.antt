pub mod Said
pub mod Headers
pub mod Cuts
pub mod Counts
pub mod Flags
pub mod Records
pub mod Joins
pub mod Built
