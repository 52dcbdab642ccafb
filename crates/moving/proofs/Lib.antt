-- What the proofs of several functions share, here and above:
--   MoveLaws      numbers moved by steps, the way back, and one sum as the code makes and tests it
-- Assumes nothing.
pub mod MoveLaws
