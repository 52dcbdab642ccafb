-- Steps of the tests of shapes that may be flat (specs/WireTest.antt): what the test of two segments asks, what that tells of their stretches and of their
-- shadows, and a flat triangle by a test of its edges. No step leans on another. Assumes nothing.
use mathlib.Core.Path.{◌≡◌, refl, subst₂}
use mathlib.Core.Bool.{Bool}
use mathlib.Core.List.{[], ◌∷◌}
use mathlib.Core.Logic.{inl, inr}
use Prim.Native.Nat.{ℕ, zero, suc, ◌<◌}
use native.Mathlib.Omega.{arith}
use lib.IntN.{ℤ, pos, neg_ℤ}
use lib.Signed.{◌<ℤ◌}
use Rattle.algebra.proofs.Expression.{var, neg}
use Rattle.algebra.proofs.Certificate.{◌≺◌, hyp, num, prove<}
use Rattle.shape.specs.Points.{Point, Shape, coord}
use Rattle.shape.specs.Signs.{turn_in, side}
use Rattle.shape.specs.Sharing.{Share}
use Rattle.shape.specs.Flat.{Flat}
use Rattle.shape.specs.Verdicts.{Says}
use Rattle.shape.specs.WireTest.{either_edge}
use Rattle.shape.proofs.Symbols.{O}
use Rattle.shape.proofs.VerdictLaws.{says_either, says_same}
use Rattle.shape.proofs.FlatLaws.{turn_in_trade}
use Rattle.shape.proofs.Segments.{OneSide, BothBelow}
use Rattle.shape.proofs.Thin.{two_edges}

-- Coordinates that trade places turn both signs.
pub one_side_mirrored : (i j : ℕ) (a b c d : Point) → OneSide (turn_in j i a b c) (turn_in j i a b d) → OneSide (turn_in i j a b c) (turn_in i j a b d)
one_side_mirrored i j a b c d h =
    mirrored (turn_in i j a b c) (turn_in i j a b d) (subst₂ OneSide (turn_in_trade i j a b c) (turn_in_trade i j a b d) h)
  where
    mirrored : (x y : ℤ) → OneSide (neg_ℤ x) (neg_ℤ y) → OneSide x y
    mirrored x y (inl h) = inr (below x h.0, below y h.1)
      where
        below : (z : ℤ) → pos 0 <ℤ neg_ℤ z → z <ℤ pos 0
        below z = prove< (z ∷ []) ((O ≺ neg (var 0)) ∷ []) (var 0) O (num 1) (hyp 0) tt tt refl
    mirrored x y (inr h) = inl (above x h.0, above y h.1)
      where
        above : (z : ℤ) → neg_ℤ z <ℤ pos 0 → pos 0 <ℤ z
        above z = prove< (z ∷ []) ((neg (var 0) ≺ O) ∷ []) O (var 0) (num 1) (hyp 0) tt tt refl

module _ (p q r s : Point) where
  -- What the test asks along each coordinate, and of the shadow without it.
  abbrev pub Along : ℕ → Type 0
  Along k =
      (BothBelow (coord k p) (coord k q) (coord k r) (coord k s) → ⊥) × (BothBelow (coord k r) (coord k s) (coord k p) (coord k q) → ⊥)

  abbrev pub SeenIn : ℕ → ℕ → Type 0
  SeenIn i j =
      (OneSide (turn_in i j p q r) (turn_in i j p q s) → ⊥) × (OneSide (turn_in i j r s p) (turn_in i j r s q) → ⊥)

  abbrev pub Without : ℕ → Type 0
  Without zero = SeenIn 1 2
  Without (suc zero) = SeenIn 2 0
  Without (suc (suc k)) = SeenIn 0 1

  abbrev pub Asked : Type 0
  Asked = ((k : ℕ) → k < 3 → Along k) × ((side p q r s ≡ pos 0) × ((k : ℕ) → k < 3 → Without k))

  -- It asks of the stretches along each of three coordinates.
  pub along_each : Asked → (k : ℕ) → k < 3 → Along k
  along_each h k l = h.0 k (omega (arith, l))

  -- And of the shadows without each of them.
  pub seen_each : Asked → (i j : ℕ) → i < j → j < 3 → SeenIn i j
  seen_each h zero (suc zero) ij jn = h.1.1 2 (omega arith)
  seen_each h (suc zero) (suc (suc zero)) ij jn = h.1.1 0 (omega arith)
  seen_each h zero (suc (suc zero)) ij jn =
      let mirrored = h.1.1 1 (omega arith) in
      ((λ g. mirrored.0 (one_side_mirrored 2 0 p q r s g)), (λ g. mirrored.1 (one_side_mirrored 2 0 r s p q g)))
  seen_each h zero zero ij jn = absurd (omega arith)
  seen_each h (suc i) zero ij jn = absurd (omega arith)
  seen_each h (suc i) (suc zero) ij jn = absurd (omega arith)
  seen_each h (suc (suc i)) (suc (suc zero)) ij jn = absurd (omega arith)
  seen_each h i (suc (suc (suc j))) ij jn = absurd (omega arith)

-- A flat triangle against any shape, by a test of its edges.
pub edges_say : (Q : Shape) (test : Point → Point → Bool) → ((x y : Point) → Says (test x y) (Share 3 (x ∷ y ∷ []) Q)) → (a b c : Point) →
    Flat 3 (a ∷ b ∷ c ∷ []) → Says (either_edge test a b c) (Share 3 (a ∷ b ∷ c ∷ []) Q)
edges_say Q test says a b c flat = says_same (two_edges a b c flat) (says_either (says a b) (says b c))
