-- What the proofs of several functions share, here and above:
--   BoxLaws       boxes: the best of three numbers, and boxes that are apart
--   Rows          a row of numbers for each triangle, written one after the other
pub mod BoxLaws
pub mod Rows
