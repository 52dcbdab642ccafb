-- Flat shapes (document 01): a triangle whose corners lie on one line, equal corners included; a segment with equal ends.
use Rattle.std.specs.Prelude.{◌≡◌, Bool, true, false, cond, [], ◌∷◌, ℕ, zero, suc, ◌<◌, ℤ, pos, negsuc, ◌-ℤ◌}
use Rattle.shape.specs.Points.{Point, Shape, coord}
use Rattle.shape.specs.Signs.{turn_in}

-- Two points are equal in n coordinates.
abbrev pub Equal : ℕ → Point → Point → Type 0
Equal n a b = (i : ℕ) → i < n → coord i a ≡ coord i b

-- Three points of n coordinates lie on one line: seen in any two of the coordinates they turn neither left nor right. (So one
-- of them is a point of the segment between the other two: proofs/Lines.antt.)
abbrev pub OnLine : ℕ → Point → Point → Point → Type 0
OnLine n a b c = (i j : ℕ) → i < n → j < n → turn_in i j a b c ≡ pos 0

-- A flat shape in n coordinates. A single point is never flat.
abbrev pub Flat : ℕ → Shape → Type 0
Flat n [] = ⊥
Flat n (a ∷ []) = ⊥
Flat n (a ∷ b ∷ []) = Equal n a b
Flat n (a ∷ b ∷ c ∷ []) = OnLine n a b c
Flat n (a ∷ b ∷ c ∷ d ∷ more) = ⊥

-- ---- the same as a test that computes: `is_flat_law` of proofs/FlatLaws.antt shows that it tells the flat shapes
abbrev pub is_zero : ℤ → Bool
is_zero (pos zero) = true
is_zero (pos (suc n)) = false
is_zero (negsuc n) = false

-- Every i below n passes the test.
abbrev pub all_below : ℕ → (ℕ → Bool) → Bool
all_below zero test = true
all_below (suc n) test = cond (test n) (all_below n test) false

abbrev pub is_flat : ℕ → Shape → Bool
is_flat n [] = false
is_flat n (a ∷ []) = false
is_flat n (a ∷ b ∷ []) = all_below n (λ i. is_zero (coord i b -ℤ coord i a))
is_flat n (a ∷ b ∷ c ∷ []) = all_below n (λ i. all_below n (λ j. is_zero (turn_in i j a b c)))
is_flat n (a ∷ b ∷ c ∷ d ∷ more) = false
