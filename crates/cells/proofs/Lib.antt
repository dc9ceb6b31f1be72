pub mod MarkLaws
pub mod StoreLaws
