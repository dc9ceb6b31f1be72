pub mod Standoffs
