-- What the contracts of the moves cite.
pub mod Moves
