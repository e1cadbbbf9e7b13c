pub mod Meaning
pub mod ScannedProp
pub mod Stages
