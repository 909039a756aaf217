pub mod Rows
pub mod Moves
pub mod Rounds
pub mod Solve
