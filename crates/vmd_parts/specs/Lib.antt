pub mod Stages
pub mod Building
