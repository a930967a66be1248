pub mod OneCall
pub mod Afterwards
pub mod Listing
pub mod Rounds
pub mod Versions
pub mod Demand
pub mod Printed
