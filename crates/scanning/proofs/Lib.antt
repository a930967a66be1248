pub mod Newlines
pub mod MovedBytes
