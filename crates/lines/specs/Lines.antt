-- A line of a sheet's answer as text (document 02, Q-2).
use Rattle.std.specs.Prelude.{cond, List, [], ◌∷◌, ◌++◌, ℕ, ltb}
use Rattle.io.specs.Digits.{last_digits}

-- How many decimal digits a number below 10,000 has. No count and no refusal number is larger (crate `answering`, proofs/Small.antt).
abbrev pub places : ℕ → ℕ
places n = cond (ltb n 10) 1 (cond (ltb n 100) 2 (cond (ltb n 1000) 3 4))

-- Its text, without leading zeros.
unfoldable pub decimal : ℕ → List ℕ
decimal n = last_digits 10 (places n) n

-- A line: the refusal number, a space, the count, and a newline.
unfoldable pub line_of : (number count : ℕ) → List ℕ
line_of number count = decimal number ++ (32 ∷ decimal count ++ (10 ∷ []))
