-- What the proofs of several functions share:
--   Gathering     lists gathered from pieces, and two numbers a pair
--   Telling       what the words of verdicts tell
--   Filling       a buffer that is filled from the front
--   ListChecks    what each check of a listing finds, by its cases
--   Sound         lists that the checks passed
--   Found         from the words of verdicts to the rule of a listing
-- and the theorems that stand beside the contract:
--   Order         the pairs are exactly those that have a point in common, each once, rising
--   Table         each reason exactly in its case
--   Unique        no second answer and no second buffer
-- and rows of the definitions:
--   OrderRows     the order of the pairs, and of the two numbers of each
pub mod Gathering
pub mod Telling
pub mod Filling
pub mod ListChecks
pub mod Sound
pub mod Found
pub mod Order
pub mod Table
pub mod Unique
pub mod OrderRows
