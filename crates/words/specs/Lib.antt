-- What the contracts of the words cite, and those of the crates above: the vocabulary of the leaves.
pub mod Bits
pub mod Spans
