-- What the proofs of several functions share: ValueLaws, what is known of points that the checks passed. And the theorems that stand beside the
-- contracts:
--   Exactly, PairTable   each reason exactly in its case: the sign and value calls, the verdict calls
--   Symmetry      trading the shapes and reordering corners leave the verdict
--   Unique        no second answer
pub mod Exactly
pub mod ValueLaws
pub mod PairTable
pub mod Symmetry
pub mod Unique
