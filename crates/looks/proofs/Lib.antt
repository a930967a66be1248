pub mod Recent
pub mod Sight
