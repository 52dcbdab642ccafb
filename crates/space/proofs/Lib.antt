-- What the proofs of several functions share:
--   SpaceLaws     triangles of space, as the tests take them
--   Guesses       what estimates tell of several signs at once
--   SegmentLaws   a segment and a triangle, by levels and by estimates
-- Assumes nothing.
pub mod SpaceLaws
pub mod Guesses
pub mod SegmentLaws
