-- The vocabulary of the tests in the plane.
pub mod Planes
