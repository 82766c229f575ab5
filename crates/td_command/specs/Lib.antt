pub mod CommandLine
pub mod Conflicts
pub mod Telling
pub mod Tables
pub mod Saying
pub mod Parting
pub mod Faults
