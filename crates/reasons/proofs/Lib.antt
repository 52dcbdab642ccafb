-- What the proofs of several functions share, here and in crate `plate`:
--   PlaceOrder    the order of the checks of a place
--   Placing       the checks of a place, and what they leave to be taken for granted
--   Orders        which reason comes first, of each change
--   Finding       what the checks of a change find together
-- Assumes nothing.
pub mod PlaceOrder
pub mod Placing
pub mod Orders
pub mod Finding
