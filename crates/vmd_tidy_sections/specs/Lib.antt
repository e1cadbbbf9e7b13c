pub mod Sections
pub mod WalkLaws
pub mod RunLaws
pub mod SectionLaws
pub mod FrontLaws
pub mod CountLaws
