-- The pairs that a listing reports: which, in which order, and as which numbers (document 01, "Listing").
use Rattle.std.specs.Prelude.{Bool, true, false, List, [], ◌∷◌, ◌++◌, ℕ, zero, suc}

-- f(from), f(from + 1), .. one after the other, n of them.
abbrev pub gathered : {A : Type 0} → (ℕ → List A) → ℕ → ℕ → List A
gathered f from zero = []
gathered f from (suc n) = f from ++ gathered f (suc from) n

-- An index of the first list and one of the second.
abbrev pub Pair : Type 0
Pair = ℕ × ℕ

-- The pair (i, j), where the two are to be listed, or nothing.
abbrev pub pair_if : Bool → ℕ → ℕ → List Pair
pair_if true i j = (i, j) ∷ []
pair_if false i j = []

-- The pairs of i below n and j below m that meet, rising in i and then in j.
abbrev pub pairs_of : (ℕ → ℕ → Bool) → ℕ → ℕ → List Pair
pairs_of meets n m = gathered (λ i. gathered (λ j. pair_if (meets i j) i j) 0 m) 0 n

-- Two numbers a pair.
abbrev pub two_each : List Pair → List ℕ
two_each [] = []
two_each (p ∷ ps) = p.0 ∷ p.1 ∷ two_each ps
