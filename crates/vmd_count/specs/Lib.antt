pub mod Held
pub mod Rowed
pub mod DistinctLaws
pub mod Examples
