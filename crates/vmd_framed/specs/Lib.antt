pub mod Excerpt
pub mod Examples
