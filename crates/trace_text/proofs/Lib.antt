pub mod Laying
pub mod Room
pub mod Laws
