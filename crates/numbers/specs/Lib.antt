pub mod Factors
pub mod First
pub mod Rows
pub mod Names
