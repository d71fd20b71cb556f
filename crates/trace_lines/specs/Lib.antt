pub mod Setups
pub mod Pieces
pub mod Traces
pub mod Joined
