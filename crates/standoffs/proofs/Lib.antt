pub mod LetterLaws
pub mod NumberLaws
pub mod ToldLaws
