pub mod Literals
pub mod Marks
pub mod Propagating
pub mod Following
pub mod Lists
pub mod Arenas
