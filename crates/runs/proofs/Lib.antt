-- What the proofs of several functions share:
--   PlateLaws     one call of a run on a plate, and the run so far with one call more
-- and the theorem that stands beside the contract:
--   RunUnique     no second result or list of answers of a run on a plate, and demand 3 for each of its calls
-- and rows of the definitions:
--   KindRows      what each kind asks, and where the six numbers stand
-- Assumes nothing.
pub mod PlateLaws
pub mod RunUnique
pub mod KindRows
