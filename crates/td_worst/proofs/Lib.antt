pub mod Outcomes
mod Leaves
mod KeptLeaves
mod OpenTrees
mod EdgeLeaves
mod Edged
mod Standings
mod Supported
mod KeptStandings
pub mod Told
