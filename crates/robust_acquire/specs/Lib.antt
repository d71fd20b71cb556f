pub mod Acquire
