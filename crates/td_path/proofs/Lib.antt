pub mod Causes
pub mod Inputs
pub mod Lasts
pub mod Numbers
pub mod Walking
pub mod Placing
pub mod Outputs
