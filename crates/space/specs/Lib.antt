-- The vocabulary of the tests in space.
pub mod Spaces
