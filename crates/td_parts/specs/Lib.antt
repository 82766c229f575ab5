pub mod Whole
pub mod Queues
pub mod Splits
pub mod Sharing
