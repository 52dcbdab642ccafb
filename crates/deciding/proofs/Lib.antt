-- What the proofs of several functions share, here and above:
--   WordLaws      words of verdicts that are built and stored
--   StageLaws     the stages of a word
--   Rounds        from what the loops of a stage leave to what it promises
pub mod WordLaws
pub mod StageLaws
pub mod Rounds
