pub mod Methods
pub mod Leaves
pub mod OpenAnswer
pub mod Kept
pub mod Known
pub mod Supports
pub mod Causes
