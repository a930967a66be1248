pub mod Chunks
pub mod Input
pub mod Reaching
