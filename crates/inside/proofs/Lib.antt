-- What the proofs of the functions share.
--   Levels    the level of the first number that isn't zero, told step by step
--   Counts    whether an odd number of triangles is ahead, counted
--   Chunks    the triangles of a list of numbers on the grid
pub mod Levels
pub mod Counts
pub mod Chunks
