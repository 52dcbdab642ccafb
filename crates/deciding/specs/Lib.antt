-- What the contracts of the verdicts cite, and those of the crates above: the vocabulary of the leaves.
pub mod Words
pub mod Places
pub mod Stages
pub mod Lists
