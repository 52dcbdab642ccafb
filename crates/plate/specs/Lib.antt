-- What the plate is, and what its calls promise. Read Slots, Parts and Changes of crate `slots`, then Rules of crate `reasons`, then Histories and
-- Plates here, in this order. Rules takes its words from Lists and Shells of `shape` and from Leaving of `slots`; Plates takes how slots stand in arrays
-- from Arrays there, and what the journal keeps from Journal of crate `keeping`. Deciding is for the functions inside, and no public promise speaks of it.
pub mod Histories
pub mod Plates
pub mod Deciding
