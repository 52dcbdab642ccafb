-- The crate's files of laws, in the order in which each uses those before it.
pub mod Ring
pub mod Order
pub mod Expression
pub mod Polynomial
pub mod Solver
pub mod Certificate
pub mod Bound
pub mod Machine
pub mod Examples
-- Lists, for the proofs of code: parts that are lent and put back, and a list that is written over from the front, or element by element.
pub mod Parts
pub mod Copying
