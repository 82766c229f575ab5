pub mod Topics
pub mod Scans
pub mod Labels
pub mod Numbers
pub mod Cells
pub mod Patterns
pub mod Readings
pub mod Placings
