pub mod Room
pub mod Names
pub mod Laws
pub mod Sections
