pub mod Shares
pub mod Weighing
pub mod Steps
pub mod Waiting
