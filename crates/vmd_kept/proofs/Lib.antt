pub mod LastsLaws
pub mod Resorted
pub mod WindowLaws
pub mod HeldLaws
pub mod Totals
pub mod Passes
