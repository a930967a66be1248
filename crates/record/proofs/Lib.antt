pub mod Counting
pub mod Ending
pub mod Leaves
pub mod Smallest
