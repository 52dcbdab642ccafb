-- What the proofs of several functions share, here and in the crates above:
--   Readings      coordinates as the code holds them, each the whole number that is meant
--   Products      the products of a row and a normal in two words
--   Holding       rows and normals whose product is told by its low word
--   LevelLaws     levels by what the estimate tells, and by the normal
--   GridLaws      points and parts of a list whose numbers are small
--   Branches      a decision by tests, read off the branch that was taken
-- Assumes nothing.
pub mod Readings
pub mod Products
pub mod Holding
pub mod LevelLaws
pub mod GridLaws
pub mod Branches
