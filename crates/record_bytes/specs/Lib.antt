pub mod Stored
pub mod Layout
pub mod Fitting
