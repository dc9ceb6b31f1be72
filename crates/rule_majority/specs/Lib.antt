pub mod Majority
pub mod Verdicts
pub mod ReachLaws
pub mod SeenLaws
pub mod RenameLaws
