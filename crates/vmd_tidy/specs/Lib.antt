pub mod Tidied
pub mod TidyLaws
pub mod Stages
pub mod StageLaws
pub mod Meaning
pub mod Tidying
pub mod Manners
pub mod Examples
