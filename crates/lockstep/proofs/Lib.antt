pub mod Turning
pub mod Deeds
pub mod RoundEffects
pub mod InStep
pub mod Stages
pub mod Lockstep
pub mod Standing
