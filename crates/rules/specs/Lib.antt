pub mod Lawful
pub mod Records
pub mod Sections
