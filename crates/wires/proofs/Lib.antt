-- What the proofs of several functions share:
--   WireLaws      numbers read, points of the grid, and triangles read
--   SegmentEnds   a segment by the levels of its ends, and the edges of a triangle
-- Assumes nothing.
pub mod WireLaws
pub mod SegmentEnds
