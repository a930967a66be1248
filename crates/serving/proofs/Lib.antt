pub mod Later
pub mod Stamps
pub mod Serving
pub mod Marking
