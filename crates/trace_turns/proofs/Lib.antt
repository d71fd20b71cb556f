pub mod Shorter
pub mod Turning
pub mod Rests
pub mod Docks
pub mod Determined
