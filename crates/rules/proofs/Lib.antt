pub mod ListLaws
pub mod ReplaceLaws
pub mod SectionLaws
