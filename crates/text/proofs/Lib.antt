pub mod Lines
pub mod HexDigits
