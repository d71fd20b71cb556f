pub mod Outcomes
pub mod Brought
pub mod Plain
pub mod Robust
