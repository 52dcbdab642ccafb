-- What the proofs of several functions share, here and above:
--   BitLaws       the bits of words that are built from others, and how many are set
--   LowestLaws    the lowest bit that is set, and the word without it
--   Filling       a word that is filled bit by bit
pub mod BitLaws
pub mod LowestLaws
pub mod Filling
