pub mod Covers
pub mod Dealing
pub mod Fairness
pub mod Finds
pub mod Pins
