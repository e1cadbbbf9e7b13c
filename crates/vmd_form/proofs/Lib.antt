pub mod ChangeLaws
pub mod CanonicalLaws
pub mod FormLaws
pub mod WholeLaws
