pub mod Laws
pub mod Setups
