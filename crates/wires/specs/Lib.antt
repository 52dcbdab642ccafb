-- The vocabulary of the tests of shapes that may be flat.
pub mod Wires
