pub mod AnswerLaws
pub mod RuleLaws
pub mod ShownLaws
