pub mod Meaning
pub mod NameLaws
