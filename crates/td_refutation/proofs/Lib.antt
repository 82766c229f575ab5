pub mod Asking
pub mod Keeping
pub mod Lists
pub mod Steps
mod States
pub mod Renaming
pub mod RenamedClauses
pub mod RenamedPairs
pub mod RenamedTimes
pub mod Renumbering
pub mod OneVerdict
pub mod Questions
