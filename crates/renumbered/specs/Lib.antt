pub mod Renumberings
pub mod Stores
