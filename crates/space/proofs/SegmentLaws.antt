-- A segment and a triangle: what levels and sure estimates tell of the ends over the plane, and of the edges that the segment passes. Assumes nothing.
use mathlib.Core.Path.{◌≡◌, refl, sym, ap, ◌∙◌}
use mathlib.Core.Bool.{Bool, true, false, not, ◌&&◌, ◌||◌, cond}
use mathlib.Core.List.{[], ◌∷◌}
use Prim.Native.Nat.{ℕ, zero, suc, ◌+◌, ◌*◌, ◌≤◌}
use native.Mathlib.Omega.{arith}
use lib.Dec.{eqb}
use lib.Ieee.{Float}
use lib.IntN.{ℤ, pos, negsuc, neg_ℤ}
use mir.Val.{bool_byte}
use Rattle.shape.specs.Points.{Point}
use Rattle.shape.specs.Signs.{side, sign, digit}
use Rattle.shape.specs.SpaceTest.{level, is_above, past_no_edge}
use Rattle.shape.proofs.SignLaws.{neighbours_trade}
use Rattle.estimates.specs.Doubles.{far_above, far_below}
use Rattle.estimates.proofs.Told.{Told}
use Rattle.exact.proofs.Branches.{bit≤, both_true}
use Rattle.exact.proofs.LevelLaws.{far_above_law, far_below_law}
use Rattle.space.specs.Spaces.{SpaceAt, of_space, sure, ends_over}
use Rattle.exact.specs.declared.points.SpacePoint.{SpacePoint}
use Rattle.exact.specs.declared.points.Triangle.{Triangle}
use Rattle.space.proofs.Guesses.{sure_told}

-- A function of a segment's ends and a triangle's corners that were read.
pub segment_at : {p q p' q' a b c : Point} {t : Triangle SpacePoint} → p' ≡ p → q' ≡ q → SpaceAt a b c t → {X : Type 0} (f : (p q a b c : Point) → X) →
    of_space (f p' q') t ≡ f p q a b c
segment_at p q t f = λ i. f (p i) (q i) (t.at_p i) (t.at_q i) (t.at_r i)

-- ---- the ends
-- Two sure estimates tell both levels, by the flags that code found.
pub ends_told : {x y : Float} {a b c p q : Point} {v w above_x above_y : Bool} → Told x a b c p → Told y a b c q → v ≡ sure x → w ≡ sure y → v && w ≡ true →
    above_x ≡ far_above x → above_y ≡ far_above y → (6 * bool_byte above_x + 2 * bool_byte above_y ≡ ends_over p q a b c) × (6 * bool_byte above_x + 2 * bool_byte above_y ≤ 8)
ends_told {x} {y} {v = v} {w = w} {above_x = above_x} {above_y = above_y} tx ty ev ew all ex ey =
    let each = both_true v w all in (
      (λ i. 6 * bool_byte (ex i) + 2 * bool_byte (ey i)) ∙ regrouped (bool_byte (far_above x)) (bool_byte (far_above y))
          ∙ (λ i. 3 * sure_told tx (sym ev ∙ each.0) i + sure_told ty (sym ew ∙ each.1) i),
      omega (arith, bit≤ above_x, bit≤ above_y),
    )
  where
    regrouped : (m n : ℕ) → 6 * m + 2 * n ≡ 3 * (2 * m) + 2 * n
    regrouped m n = omega arith

-- ---- the edges
-- Two corners that trade places turn the sign, so that above becomes below.
edge_turned : (p q a c : Point) → is_above p q c a ≡ eqb (level p q a c) 0
edge_turned p q a c = ap (λ (z : ℤ). eqb (digit (sign z)) 2) (neighbours_trade (p ∷ q ∷ []) c a []) ∙ turned (side p q a c)
  where
    turned : (z : ℤ) → eqb (digit (sign (neg_ℤ z))) 2 ≡ eqb (digit (sign z)) 0
    turned (pos zero) = refl
    turned (pos (suc n)) = refl
    turned (negsuc n) = refl

-- The levels over two planes through p and q tell whether p q passes no edge on the outside.
pub past_by_levels : (p q a b c : Point) {i j k : ℕ} → i ≡ level p q a b → j ≡ level p q a c → k ≡ level p q b c →
    not (eqb i 2) && not (eqb j 0) && not (eqb k 2) ≡ past_no_edge p q a b c
past_by_levels p q a b c ei ej ek =
    (λ t. not (eqb (ei t) 2) && not ((ap (λ (n : ℕ). eqb n 0) ej ∙ sym (edge_turned p q a c)) t) && not (eqb (ek t) 2))
    ∙ none (is_above p q a b) (is_above p q c a) (is_above p q b c)
  where
    none : (x y z : Bool) → not x && not y && not z ≡ cond x false (cond z false (cond y false true))
    none true y z = refl
    none false true true = refl
    none false true false = refl
    none false false true = refl
    none false false false = refl

-- A sure estimate is far below zero exactly where the level is not 2, and far above it exactly where the level is not 0.
module _ {e : Float} {a b c d : Point} (told : Told e a b c d) (sure_of_it : sure e ≡ true) where
  below_told : far_below e ≡ not (eqb (level a b c d) 2)
  below_told = by_side (far_above e) (far_below e) refl refl sure_of_it
    where
      by_side : (v w : Bool) → far_above e ≡ v → far_below e ≡ w → v || w ≡ true → far_below e ≡ not (eqb (level a b c d) 2)
      by_side true true above below s = absurd (omega (arith, far_above_law told refl above, far_below_law told refl below))
      by_side true false above below s = below ∙ ap (λ (n : ℕ). not (eqb n 2)) (far_above_law told refl above)
      by_side false true above below s = below ∙ ap (λ (n : ℕ). not (eqb n 2)) (far_below_law told refl below)
      by_side false false above below s =
          let same : ◌≡◌ {A = ℕ} 0 1 = cc in
          absurd (omega arith)

  above_told : far_above e ≡ not (eqb (level a b c d) 0)
  above_told = flag (far_above e) ∙ ap (λ (n : ℕ). not (eqb n 0)) (sure_told told sure_of_it)
    where
      flag : (v : Bool) → v ≡ not (eqb (2 * bool_byte v) 0)
      flag true = refl
      flag false = refl

-- So three sure estimates tell it, by the flags that code found.
pub past_told : {x y z : Float} {p q a b c : Point} {u v w below_x above_y below_z : Bool} → Told x p q a b → Told y p q a c → Told z p q b c →
    u ≡ sure x → v ≡ sure y → w ≡ sure z → u && v && w ≡ true → below_x ≡ far_below x → above_y ≡ far_above y → below_z ≡ far_below z →
    below_x && above_y && below_z ≡ past_no_edge p q a b c
past_told {p = p} {q} {a} {b} {c} {u} {v} {w} tx ty tz eu ev ew all ex ey ez =
    let two = both_true (u && v) w all in
    let one = both_true u v two.0 in
    (λ i. (ex ∙ below_told tx (sym eu ∙ one.0)) i && (ey ∙ above_told ty (sym ev ∙ one.1)) i && (ez ∙ below_told tz (sym ew ∙ two.1)) i)
    ∙ past_by_levels p q a b c refl refl refl
