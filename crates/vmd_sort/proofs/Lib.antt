pub mod CmpLaws
