-- The triangles that may be asked whether they are flat (Kinds), what the tests on lists promise (Meeting), and the vocabulary of verdicts in stages (Standings).
pub mod Kinds
pub mod Meeting
pub mod Standings
