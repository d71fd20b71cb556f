pub mod Accesses
pub mod Custodies
pub mod Steps
pub mod Starts
pub mod Setups
pub mod Drains
