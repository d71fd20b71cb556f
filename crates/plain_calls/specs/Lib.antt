pub mod Asks
pub mod Resumes
pub mod Marks
