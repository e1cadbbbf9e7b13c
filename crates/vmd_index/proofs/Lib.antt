pub mod Laws
pub mod Text
pub mod Words
pub mod Lines
pub mod Reading
pub mod Promises
