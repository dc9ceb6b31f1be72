pub mod Calls
pub mod Examples
pub mod Letters
pub mod Loads
pub mod Meanings
pub mod Rigs
pub mod Rounds
