-- What the proofs of several functions share, here and above:
--   EndLaws       the ends of boxes
--   TableLaws     tables of words
pub mod EndLaws
pub mod TableLaws
