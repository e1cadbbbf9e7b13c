pub mod Rows
pub mod FrameLaws
pub mod RowLaws
