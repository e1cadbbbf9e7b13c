pub mod Slices
pub mod Fields
pub mod Words
pub mod Written
pub mod Examples
