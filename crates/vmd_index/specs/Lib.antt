pub mod Index
pub mod Steps
pub mod Output
pub mod Examples
