pub mod CountLaws
pub mod EqualLaws
