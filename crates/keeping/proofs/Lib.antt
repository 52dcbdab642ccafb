-- What the proofs of several functions share, here and above:
--   Past          the journal of a history: a change noted, taken out, and what its latest entry tells
-- Assumes nothing.
pub mod Past
