pub mod Spelled
pub mod HexDigits
pub mod Laws
