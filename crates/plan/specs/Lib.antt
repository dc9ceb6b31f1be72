pub mod Accepted
pub mod Bytes
pub mod Checks
pub mod Kinds
pub mod Plans
pub mod Published
