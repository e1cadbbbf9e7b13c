pub mod Excerpting
pub mod Manners
pub mod StageLaws
