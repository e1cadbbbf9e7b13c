pub mod Laws
pub mod Words
pub mod Floats
pub mod Writes
