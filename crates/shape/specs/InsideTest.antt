-- Inside, decided by signs. No public promise cites it: proofs/InsideTest.antt shows that it is the definition of specs/Inside.antt.
use Rattle.std.specs.Prelude.{Bool, false, not, cond, List, [], ◌∷◌, ℕ, zero, suc, eqb, ℤ, pos, negsuc, ◌-ℤ◌}
use Rattle.shape.specs.Points.{Point, Shape, coord}
use Rattle.shape.specs.Signs.{turn, side}
use Rattle.shape.specs.Normals.{normal_of}
use Rattle.shape.specs.Lists.{some}
use Rattle.shape.specs.Inside.{shadow_of}
use Rattle.shape.specs.Shells.{corners_of}

-- The level of the first of these numbers that isn't zero: 0 below zero, 2 above it; 1 where all are zero.
abbrev pub leading : List ℤ → ℕ
leading [] = 1
leading (pos zero ∷ zs) = leading zs
leading (pos (suc n) ∷ zs) = 2
leading (negsuc n ∷ zs) = 0

-- The first of two levels that isn't the middle one.
abbrev pub first_of : ℕ → ℕ → ℕ
first_of x y = cond (eqb x 1) y x

-- The turn of a → b and the moved point p, all in the shadow, by its coefficients of n · n, n and 1.
abbrev pub edge_numbers : Point → Point → Point → List ℤ
edge_numbers a b p = turn a b p ∷ (coord 1 a -ℤ coord 1 b) ∷ (coord 0 b -ℤ coord 0 a) ∷ []

-- The side of the moved point to the plane of a, b, c, likewise.
abbrev pub plane_numbers : Point → Point → Point → Point → List ℤ
plane_numbers a b c p = side a b c p ∷ (pos 0 -ℤ coord 1 (normal_of a b c)) ∷ (pos 0 -ℤ coord 2 (normal_of a b c)) ∷ []

-- The levels of the three edges and of the plane.
abbrev pub edge_level : Point → Point → Point → ℕ
edge_level a b p = leading (edge_numbers (shadow_of a) (shadow_of b) (shadow_of p))

abbrev pub plane_level : Point → Point → Point → Point → ℕ
plane_level a b c p = leading (plane_numbers a b c p)

-- All four levels are the same, and not the middle one.
abbrev pub all_alike : (e f g h : ℕ) → Bool
all_alike e f g h = cond (eqb e 1) false (cond (eqb f e) (cond (eqb g e) (eqb h e) false) false)

-- Whether a triangle is ahead of the moved point.
abbrev pub is_ahead : Point → Shape → Bool
is_ahead p [] = false
is_ahead p (a ∷ []) = false
is_ahead p (a ∷ b ∷ []) = false
is_ahead p (a ∷ b ∷ c ∷ []) = all_alike (edge_level a b p) (edge_level b c p) (edge_level c a p) (plane_level a b c p)
is_ahead p (a ∷ b ∷ c ∷ d ∷ more) = false

-- Whether an odd number of triangles is ahead, with one more that is or is not; and of a list.
abbrev pub odd_with : (more odd : Bool) → Bool
odd_with more odd = cond more (not odd) odd

abbrev pub odd_ahead : Point → List Shape → Bool
odd_ahead p [] = false
odd_ahead p (P ∷ Ps) = odd_with (is_ahead p P) (odd_ahead p Ps)

-- Whether some corner of the first triangles is inside the shell of the second.
abbrev pub corner_in : List Shape → List Shape → Bool
corner_in Ps Qs = some (λ a. odd_ahead a Qs) (corners_of Ps)
