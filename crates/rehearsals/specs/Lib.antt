pub mod Answers
pub mod Twins
