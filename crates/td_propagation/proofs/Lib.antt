pub mod Trails
pub mod Soundness
pub mod Parts
