pub mod Told
pub mod Scenes
pub mod Went
