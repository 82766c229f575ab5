pub mod Text
pub mod Says
pub mod Laws
pub mod Writes
pub mod Chosen
pub mod Walks
