-- What slots are, what changes do to them, and how two flat arrays show them. The promises of the plate's calls (crate `plate`) speak of
-- Slots, Parts, Changes, Leaving and Arrays; Counting and Showing are for the functions inside, and no public promise speaks of them.
pub mod Slots
pub mod Parts
pub mod Changes
pub mod Leaving
pub mod Arrays
pub mod Counting
pub mod Showing
