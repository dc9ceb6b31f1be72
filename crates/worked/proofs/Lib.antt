pub mod Alone
pub mod Counts
pub mod Examples
