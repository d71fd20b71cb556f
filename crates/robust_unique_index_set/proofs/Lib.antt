pub mod Sound
pub mod Accepted
pub mod Stays
pub mod Refused
pub mod Numbers
pub mod Fresh
pub mod Determined
pub mod Corners
