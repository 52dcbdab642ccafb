-- What the contracts of the listing cite. Read Pairs, Rules and Told, and Triangles of crate `boxes`; Writing is the vocabulary of the leaves.
pub mod Pairs
pub mod Rules
pub mod Told
pub mod Writing
