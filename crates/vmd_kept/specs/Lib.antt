pub mod Window
pub mod Keyed
