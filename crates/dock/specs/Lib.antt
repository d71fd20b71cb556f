pub mod Works
pub mod Plain
pub mod Robust
pub mod Docks
