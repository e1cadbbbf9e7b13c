pub mod Tables
pub mod Leading
pub mod Examples
pub mod Rowed
