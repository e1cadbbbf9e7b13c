pub mod Records
pub mod Properties
