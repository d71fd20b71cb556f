pub mod Stores
pub mod Laid
pub mod Tables
pub mod Fitting
