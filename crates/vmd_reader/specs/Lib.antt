pub mod Meaning
pub mod Own
pub mod Examples
