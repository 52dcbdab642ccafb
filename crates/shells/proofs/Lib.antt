-- What the proofs of the functions share.
--   Sameness    numbers compared, as the machine does it
--   Counting    how often an edge occurs
--   Opening     a shell is open exactly where some edge of some triangle is
pub mod Sameness
pub mod Counting
pub mod Opening
