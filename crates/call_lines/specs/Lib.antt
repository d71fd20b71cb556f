pub mod Commands
pub mod Numbers
