-- What the proofs of several functions share, here and above:
--   Judging       from the tests to the definition
--   Stages        from standings and last signs to the definition
pub mod Judging
pub mod Stages
