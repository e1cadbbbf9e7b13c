pub mod Season
pub mod Meaning
pub mod Differ
pub mod Overall
pub mod Fitting
pub mod DifferLaws
pub mod Examples
