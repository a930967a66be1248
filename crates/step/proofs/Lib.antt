pub mod Draining
pub mod Turning
