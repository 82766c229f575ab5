pub mod Fair
pub mod Frontiers
pub mod Subjects
pub mod Turning
pub mod Truth
pub mod Watched
pub mod Working
