pub mod PartsOfFile
pub mod Own
pub mod ReadBack
pub mod Canonical
pub mod Rebuilt
pub mod Seasons
