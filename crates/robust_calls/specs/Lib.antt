pub mod Asks
pub mod Resumes
