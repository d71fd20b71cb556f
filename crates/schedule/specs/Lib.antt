pub mod Format
pub mod Written
pub mod Joining
