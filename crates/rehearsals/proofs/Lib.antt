pub mod AnswerLaws
pub mod TwinLaws
