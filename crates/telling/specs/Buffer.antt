-- The buffer that a door is lent: four numbers are written to its front and the rest of it stays. One that holds fewer than
-- four stays as it is, and only then the result is 1.
use Rattle.std.specs.Prelude.{◌≡◌, Bool, cond, List, ◌++◌, ℕ, ltb, length, drop}

abbrev pub too_short : List ℕ → Bool
too_short buffer = ltb (length buffer) 4

abbrev pub result_for : List ℕ → ℕ
result_for buffer = cond (too_short buffer) 1 0

-- The buffer afterwards, from the four numbers and the buffer before.
abbrev pub written : List ℕ → List ℕ → List ℕ
written numbers buffer = cond (too_short buffer) buffer (numbers ++ drop 4 buffer)

-- What is promised of the four numbers of an answer.
pub record Written (numbers before : List ℕ) (result : ℕ) (after : List ℕ) : Type 0 where
  pub gives : result ≡ result_for before
  pub leaves : after ≡ written numbers before
