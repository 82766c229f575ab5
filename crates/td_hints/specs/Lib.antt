pub mod Certificates
pub mod Drivers
pub mod Joins
pub mod Netlists
pub mod Verdicts
