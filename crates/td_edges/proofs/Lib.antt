pub mod Picks
pub mod Reaching
