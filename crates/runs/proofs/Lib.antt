pub mod Lawfulness
pub mod Views
pub mod Effects
pub mod Keeping
pub mod Freshness
pub mod Questions
pub mod Serving
