-- What the proofs share:
--   CallLaws      what the checks of a call find, by its outcome
-- and the theorems that stand beside the contracts:
--   RoundTrip     a field that is written is read as its call
-- Assumes nothing.
pub mod CallLaws
pub mod RoundTrip
