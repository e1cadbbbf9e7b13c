pub mod HeldLaws
pub mod Counts
