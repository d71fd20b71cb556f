pub mod Bump
pub mod Count
pub mod Lock
