pub mod Tracks
pub mod Sorted
pub mod Ranked
pub mod Tidy
pub mod Examples
