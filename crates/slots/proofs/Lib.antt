-- What the proofs of several functions share, here and above:
--   Clashing      slots that strike are slots that clash, the count that code keeps is the number of clashing pairs, and marks that strike
--                 are parts whose skins meet
--   Counts        that count, when a slot is written and when a part is moved
--   Grids         coordinates on the grid
--   Sliding       a part moved: its triangles, which of them stay on the grid, and the way back
--   Arrays        slots in the flat arrays: read, and written anew
--   PartLaws      a part moved slot by slot
--   PartTriangles the triangles of a part, slot by slot, and written to a list
--   Swallowed     a part that has a corner inside another
--   Verdicts      which slots clash, from what the pair test promises
--   Ranges        what code finds in the range of the 64 slots
--   Asked         what slots answer that were asked where they lie on the grid
-- Assumes nothing.
pub mod Clashing
pub mod Counts
pub mod Arrays
pub mod Grids
pub mod Sliding
pub mod PartTriangles
pub mod Swallowed
pub mod PartLaws
pub mod Verdicts
pub mod Ranges
pub mod Asked
