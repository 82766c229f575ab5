pub mod Files
pub mod Devices
pub mod Disks
pub mod MemoryFiles
pub mod RealWriters
