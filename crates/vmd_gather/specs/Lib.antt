pub mod Gather
pub mod Rowed
