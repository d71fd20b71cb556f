pub mod Stack
pub mod History
pub mod Runs
pub mod Demand
