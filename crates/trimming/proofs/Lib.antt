pub mod Newest
pub mod Trimmed
