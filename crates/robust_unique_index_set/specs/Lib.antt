pub mod Accesses
pub mod Steps
pub mod Starts
pub mod Setups
pub mod Drains
