-- The tests of shapes that may be flat (specs/WireTest.antt) say yes exactly when the two shapes have a point in common: two segments, a segment
-- and a triangle, two triangles, whatever their corners are. Assumes nothing.
use mathlib.Core.Path.{◌≡◌}
use mathlib.Core.Bool.{Bool}
use mathlib.Core.List.{[], ◌∷◌}
use mathlib.Core.Logic.{inl, inr}
use Prim.Native.Nat.{ℕ, zero, suc, ◌<◌}
use native.Mathlib.Omega.{arith}
use lib.Dec.{eqb}
use lib.IntN.{ℤ, pos, negsuc}
use lib.Signed.{◌<ℤ◌, <ℤ_irrefl}
use Rattle.algebra.proofs.Order.{le_of_lt, ≤ℤ-<ℤ-trans}
use Rattle.shape.specs.Points.{Point, coord}
use Rattle.shape.specs.Signs.{turn_in, side, sign, digit}
use Rattle.shape.specs.Sharing.{Share}
use Rattle.shape.specs.Verdicts.{Says}
use Rattle.shape.specs.SpaceTest.{Standing, beside, within, alone, standing, pattern, by_standing, placed, last_signs}
use Rattle.shape.specs.WireTest.{both_below, stretches_meet, one_side, shadows_meet, segments_test, segment_triangle_test, close_test, crossing_test, triangles_test}
use Rattle.shape.proofs.Trading.{share_trade}
use Rattle.shape.proofs.VerdictLaws.{says_no, says_less, says_both, says_neither, says_by, says_same}
use Rattle.shape.proofs.FlatLaws.{zero_says, below_says, is_flat_law}
use Rattle.shape.proofs.Segments.{OneSide, BothBelow, side_in, Touching, touching_is_meeting}
use Rattle.shape.proofs.WireSteps.{Along, SeenIn, Without, Asked, along_each, seen_each, one_side_mirrored, edges_say}
use Rattle.shape.proofs.Standings.{Fits, fits}
use Rattle.shape.proofs.SpaceTest.{in_plane, crossing, beside_apart, segment_space_test_law}

-- ---- the numbers
both_below_says : (p q r s : ℤ) → Says (both_below p q r s) (BothBelow p q r s)
both_below_says p q r s =
    says_same ((λ h. (h.0, h.1.0, h.1.1.0, h.1.1.1)), (λ h. (h.0, (h.1, (h.2, h.3)))))
    (says_both (says_less p r) (says_both (says_less p s) (says_both (says_less q r) (says_less q s))))

one_side_says : (x y : ℤ) → Says (one_side x y) (OneSide x y)
one_side_says x y =
    says_by (says_less (pos 0) x)
    (λ above. says_same ((λ h. inl (above, h)), (λ h. second above h)) (says_less (pos 0) y))
    (λ not_above. says_same ((λ h. inr h), (λ h. below not_above h)) (says_both (says_less x (pos 0)) (says_less y (pos 0))))
  where
    second : pos 0 <ℤ x → OneSide x y → pos 0 <ℤ y
    second above (inl h) = h.1
    second above (inr h) = absurd (<ℤ_irrefl (≤ℤ-<ℤ-trans (le_of_lt above) h.0))

    below : (pos 0 <ℤ x → ⊥) → OneSide x y → (x <ℤ pos 0) × (y <ℤ pos 0)
    below not_above (inl h) = absurd (not_above h.0)
    below not_above (inr h) = h

level_says : (z : ℤ) → Says (eqb (digit (sign z)) 1) (z ≡ pos 0)
level_says (pos zero) = zero_says (pos zero)
level_says (pos (suc n)) = zero_says (pos (suc n))
level_says (negsuc n) = zero_says (negsuc n)

-- ---- two segments
module _ (p q r s : Point) where
  shadow_says : (k : ℕ) → Says (shadows_meet k p q r s) (Without p q r s k)
  shadow_says zero = says_neither (one_side_says (turn_in 1 2 p q r) (turn_in 1 2 p q s)) (one_side_says (turn_in 1 2 r s p) (turn_in 1 2 r s q))
  shadow_says (suc zero) = says_neither (one_side_says (turn_in 2 0 p q r) (turn_in 2 0 p q s)) (one_side_says (turn_in 2 0 r s p) (turn_in 2 0 r s q))
  shadow_says (suc (suc k)) = says_neither (one_side_says (turn_in 0 1 p q r) (turn_in 0 1 p q s)) (one_side_says (turn_in 0 1 r s p) (turn_in 0 1 r s q))

  asked_says : Says (segments_test p q r s) (Asked p q r s)
  asked_says =
      says_both
      (below_says _ (Along p q r s) (λ k. stretches_meet (coord k p) (coord k q) (coord k r) (coord k s))
      (λ k. says_neither (both_below_says (coord k p) (coord k q) (coord k r) (coord k s)) (both_below_says (coord k r) (coord k s) (coord k p) (coord k q))))
      (says_both (level_says (side p q r s)) (below_says _ (Without p q r s) (λ k. shadows_meet k p q r s) shadow_says))

  -- It asks of three coordinates what the law asks of any number.
  touching : Asked p q r s → Touching 3 p q r s
  touching h = record {
    level = at;
    first_line = λ i j ij jn. (seen_each p q r s h i j ij jn).0;
    second_line = λ i j ij jn. (seen_each p q r s h i j ij jn).1;
    not_below = λ k l. (along_each p q r s h k l).0;
    not_above = λ k l. (along_each p q r s h k l).1;
  }
    where
      at : (i j l : ℕ) → i < j → j < l → l < 3 → side_in i j l p q r s ≡ pos 0
      at zero (suc zero) (suc (suc zero)) ij jl ln = h.1.0
      at zero (suc zero) zero ij jl ln = absurd (omega arith)
      at zero (suc zero) (suc zero) ij jl ln = absurd (omega arith)
      at zero (suc zero) (suc (suc (suc l))) ij jl ln = absurd (omega arith)
      at zero zero l ij jl ln = absurd (omega arith)
      at zero (suc (suc j)) l ij jl ln = absurd (omega arith)
      at (suc i) j l ij jl ln = absurd (omega arith)

  asked : Touching 3 p q r s → Asked p q r s
  asked t = (λ k l. (t.not_below k (omega (arith, l)), t.not_above k (omega (arith, l))), (t.level 0 1 2 (omega arith) (omega arith) (omega arith), λ k l. without_each k))
    where
      seen_in_law : (i j : ℕ) → i < j → j < 3 → SeenIn p q r s i j
      seen_in_law i j ij jn = (t.first_line i j ij jn, t.second_line i j ij jn)

      without_each : (k : ℕ) → Without p q r s k
      without_each zero = seen_in_law 1 2 (omega arith) (omega arith)
      without_each (suc zero) =
          let s02 = seen_in_law 0 2 (omega arith) (omega arith) in
          ((λ g. s02.0 (one_side_mirrored 0 2 p q r s g)), (λ g. s02.1 (one_side_mirrored 0 2 r s p q g)))
      without_each (suc (suc k)) = seen_in_law 0 1 (omega arith) (omega arith)

  pub segments_test_law : Says (segments_test p q r s) (Share 3 (p ∷ q ∷ []) (r ∷ s ∷ []))
  segments_test_law = says_same ((λ h. (touching_is_meeting p q r s).0 (touching h)), (λ m. asked ((touching_is_meeting p q r s).1 m))) asked_says

-- ---- a triangle that may be flat
pub segment_triangle_test_law : (p q a b c : Point) → Says (segment_triangle_test p q a b c) (Share 3 (p ∷ q ∷ []) (a ∷ b ∷ c ∷ []))
segment_triangle_test_law p q a b c =
    says_by (is_flat_law 3 (a ∷ b ∷ c ∷ []))
    (λ flat.
    says_same (share_trade, share_trade)
    (edges_say (p ∷ q ∷ []) (segments_test p q) (λ x y. says_same (share_trade, share_trade) (segments_test_law p q x y)) a b c flat))
    (segment_space_test_law p q a b c)

-- ---- two triangles
-- The first in the plane of the second, or one of them flat.
close_test_law : (p1 q1 r1 p2 q2 r2 : Point) → Fits within (side p2 q2 r2 p1) (side p2 q2 r2 q1) (side p2 q2 r2 r1) →
    Says (close_test p1 q1 r1 p2 q2 r2) (Share 3 (p1 ∷ q1 ∷ r1 ∷ []) (p2 ∷ q2 ∷ r2 ∷ []))
close_test_law p1 q1 r1 p2 q2 r2 on =
    says_by (is_flat_law 3 (p1 ∷ q1 ∷ r1 ∷ []))
    (edges_say (p2 ∷ q2 ∷ r2 ∷ []) (λ x y. segment_triangle_test x y p2 q2 r2) (λ x y. segment_triangle_test_law x y p2 q2 r2) p1 q1 r1)
    (λ first_not_flat.
    says_by (is_flat_law 3 (p2 ∷ q2 ∷ r2 ∷ []))
    (λ flat.
    says_same (share_trade, share_trade)
    (edges_say (p1 ∷ q1 ∷ r1 ∷ []) (λ x y. segment_triangle_test x y p1 q1 r1) (λ x y. segment_triangle_test_law x y p1 q1 r1) p2 q2 r2 flat))
    (λ second_not_flat. in_plane p1 q1 r1 p2 q2 r2 first_not_flat second_not_flat on.0 on.1 on.2))

module _ (p1 q1 r1 p2 q2 r2 : Point) where
  abbrev Meet : Type 0
  Meet = Share 3 (p1 ∷ q1 ∷ r1 ∷ []) (p2 ∷ q2 ∷ r2 ∷ [])

  by_second : (turns1 : ℕ) (swap2 : Bool) → Fits (alone turns1 swap2) (side p2 q2 r2 p1) (side p2 q2 r2 q1) (side p2 q2 r2 r1) →
      (st : Standing) → Fits st (side p1 q1 r1 p2) (side p1 q1 r1 q2) (side p1 q1 r1 r2) →
      Says (by_standing st (close_test p2 q2 r2 p1 q1 r1) (λ turns2 swap1. placed turns1 swap1 (λ a b c. placed turns2 swap2 (last_signs a b c) p2 q2 r2) p1 q1 r1)) Meet
  by_second turns1 swap2 fit-1 beside h = says_no (beside_apart p1 q1 r1 p2 q2 r2 h)
  by_second turns1 swap2 fit-1 within h = says_same (share_trade, share_trade) (close_test_law p2 q2 r2 p1 q1 r1 h)
  by_second turns1 swap2 fit-1 (alone turns2 swap1) fit-2 = crossing p1 q1 r1 p2 q2 r2 turns1 turns2 swap1 swap2 fit-1 fit-2

  by_first : (st : Standing) → Fits st (side p2 q2 r2 p1) (side p2 q2 r2 q1) (side p2 q2 r2 r1) →
      Says (by_standing st (close_test p1 q1 r1 p2 q2 r2) (crossing_test p1 q1 r1 p2 q2 r2)) Meet
  by_first beside h = says_no (λ s. beside_apart p2 q2 r2 p1 q1 r1 h (share_trade s))
  by_first within h = close_test_law p1 q1 r1 p2 q2 r2 h
  by_first (alone turns1 swap2) fit-1 =
      by_second turns1 swap2 fit-1 (standing (pattern p2 q2 r2 p1 q1 r1)) (fits (side p1 q1 r1 p2) (side p1 q1 r1 q2) (side p1 q1 r1 r2))

  pub triangles_test_law : Says (triangles_test p1 q1 r1 p2 q2 r2) Meet
  triangles_test_law = by_first (standing (pattern p1 q1 r1 p2 q2 r2)) (fits (side p2 q2 r2 p1) (side p2 q2 r2 q1) (side p2 q2 r2 r1))
