pub mod Lent
pub mod Meaning
pub mod Stages
