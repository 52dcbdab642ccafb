-- The estimate of a side in doubles, and what a double is worth.
pub mod Doubles
