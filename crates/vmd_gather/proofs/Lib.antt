pub mod Lists
pub mod Runs
pub mod Leaders
pub mod Ordered
pub mod Whole
