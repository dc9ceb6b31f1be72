pub mod Bounds
pub mod Moves
pub mod Newcomers
pub mod Seating
pub mod Serving
pub mod Worlds
