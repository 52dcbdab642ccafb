-- The theorems that stand beside the contracts:
--   Unique        no second result or buffer; for the plate's door it is RunUnique of crate `runs`
--   ByteTable     the door of bytes: each number exactly in its case, and trading the slices leaves it
--   ByteLists     its number is that of what the pair call tells of the decoded lists
-- and what the proofs share: NineNumbers, what the pair call tells of two lists of nine numbers. Assumes nothing.
pub mod Unique
pub mod NineNumbers
pub mod ByteTable
pub mod ByteLists
