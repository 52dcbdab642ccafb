-- The vocabulary of the functions inside. No public promise speaks of it.
pub mod Opening
