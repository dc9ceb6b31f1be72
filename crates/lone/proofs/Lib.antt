pub mod Scenes
pub mod Following
pub mod Alone
pub mod Fronts
pub mod Majority
pub mod ReadWrite
pub mod Climbing
pub mod Ladder
