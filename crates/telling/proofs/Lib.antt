-- What the proofs of several functions share, here and in the doors:
--   BufferLaws    how what is promised of a buffer is met
--   Codes         the numbers of what was served
-- and the theorem that stands beside the contracts:
--   Exactly       what is promised of the result and the buffer, in words
-- and rows of the definitions:
--   NumberRows    which number stands where, and what each code is
-- Assumes nothing.
pub mod BufferLaws
pub mod Codes
pub mod Exactly
pub mod NumberRows
