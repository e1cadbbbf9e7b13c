pub mod Fitting
pub mod PartsMean
pub mod Rebuilding
pub mod SplitRefusals
pub mod SplitManners
pub mod Given
pub mod Examples
