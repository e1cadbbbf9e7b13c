pub mod Size
pub mod File
