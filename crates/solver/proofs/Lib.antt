pub mod Moves
pub mod Searches
pub mod Round
pub mod Plans
pub mod Solving
