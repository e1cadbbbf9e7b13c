pub mod Saved
pub mod Together
pub mod Demand3
pub mod Refusals
pub mod Examples
pub mod Frames
