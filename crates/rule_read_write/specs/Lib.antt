pub mod Judging
pub mod ReadWrite
pub mod Laws
