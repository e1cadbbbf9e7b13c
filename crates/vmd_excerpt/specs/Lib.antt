pub mod Meaning
pub mod Excerpted
pub mod Stages
pub mod Examples
