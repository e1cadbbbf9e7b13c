pub mod Leaders
pub mod Numbering
pub mod TableLaws
pub mod TableMeaning
