pub mod Called
pub mod Plain
pub mod Robust
