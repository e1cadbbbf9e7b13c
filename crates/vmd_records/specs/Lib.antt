pub mod Fields
pub mod Kinds
pub mod KindLaws
pub mod PropertyRow
pub mod RowLaws
pub mod Examples
