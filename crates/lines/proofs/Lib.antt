pub mod FrontRows
pub mod Readings
