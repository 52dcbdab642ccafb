-- The grid and what a checked list is (Grid), what the cases of a sign stand for (SignNumbers); and for the inside how large coordinates can be (Sizes), lists of small numbers (Small) and the vocabulary of
-- the determinants (Vectors).
pub mod Grid
pub mod SignNumbers
pub mod Sizes
pub mod Small
pub mod Vectors
