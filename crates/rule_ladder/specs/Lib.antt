pub mod Flags
pub mod Ladder
pub mod Moves
pub mod Verdicts
pub mod StartLaws
pub mod FlagLaws
pub mod ReachLaws
pub mod RenameLaws
