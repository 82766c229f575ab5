pub mod Asking
pub mod Lines
pub mod Doing
pub mod Lowers
pub mod Refuting
pub mod Whole
pub mod Emptied
pub mod Numberings
