-- What the contracts of the tables cite, and those of the crate above: the vocabulary of the leaves.
pub mod Ends
pub mod Tables
