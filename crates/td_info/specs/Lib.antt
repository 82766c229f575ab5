pub mod Sizes
pub mod Depths
pub mod Ranges
