pub mod CheckLaws
pub mod Faith
pub mod Judged
pub mod EventLaws
pub mod NumberLaws
