-- What the proofs of several functions share, here and above:
--   AnswerLaws    what answers tell, and checks before them
--   LowestLaw     how code finds the lowest position off the grid
--   GridLaws      the lowest position off the grid
--   CheckLaws     what each check finds, by its cases
--   Tables        what an answer gives, and tables of cases for it
--   Passing       what is known of shapes that the checks passed
--   ReadBack      a refusal read back off what it tells
-- and rows of the definition:
--   GridRows      the ends of the grid, and one farther
pub mod AnswerLaws
pub mod LowestLaw
pub mod GridLaws
pub mod CheckLaws
pub mod Tables
pub mod Passing
pub mod GridRows
pub mod ReadBack
