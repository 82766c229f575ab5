pub mod Partition
pub mod Joining
pub mod Claims
pub mod Faults
pub mod Steps
pub mod Stacks
