pub mod Letters
pub mod Numerals
pub mod Requests
pub mod Told
