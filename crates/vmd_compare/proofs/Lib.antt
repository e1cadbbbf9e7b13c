pub mod Handed
pub mod Places
pub mod Turns
