-- The ends of boxes (specs/Ends.antt): what the code reads of a box, that a triangle's box reaches every box whose triangle has a
-- point in common with it, and that boxes which reach each other are not apart. Assumes nothing.
use mathlib.Core.Path.{◌≡◌, refl, subst₂, ◌∙◌}
use mathlib.Core.Bool.{Bool, true, false, cond}
use mathlib.Core.List.{List}
use Prim.Native.Nat.{ℕ, zero, suc, ◌+◌, ◌*◌, ◌<◌}
use native.Mathlib.Omega.{arith}
use lib.IntN.{ℤ, pos, negsuc}
use lib.ListN.{get_or, drop}
use lib.Seq.{get_or-take, get_or-drop}
use lib.Signed.{lt_z, ◌≤ℤ◌, clash_ℤ}
use Rattle.algebra.proofs.Order.{lt_true, lt_false}
use Rattle.shape.specs.Points.{points_at}
use Rattle.shape.specs.Sharing.{Share}
use Rattle.shape.proofs.Trading.{share_trade}
use Rattle.boxes.specs.Boxes.{smaller, larger, best_at, box_of, apart_along, boxes_apart, six}
use Rattle.boxes.proofs.BoxLaws.{apart_at}
use Rattle.sifting.specs.Ends.{mirror, Reaches}

-- ---- what the code reads of box j
pub of_six : (j e : ℕ) (boxes : List ℤ) → e < 6 → get_or (six j boxes) e (pos 0) ≡ get_or boxes (6 * j + e) (pos 0)
of_six j e boxes h = get_or-take 6 (drop (6 * j) boxes) e (pos 0) h ∙ get_or-drop (6 * j) boxes e (pos 0)

-- ---- triangles that have a point in common
mirror_le : (x y : ℤ) → x ≤ℤ y → mirror y ≤ℤ mirror x
mirror_le (pos a) (pos b) h = record { le = h.le }
mirror_le (pos a) (negsuc b) h = absurd h.le
mirror_le (negsuc a) (pos b) h = record { le = tt }
mirror_le (negsuc a) (negsuc b) h = record { le = h.le }

-- Along coordinate c, the box of Q begins where that of P ends or before.
along : (c : ℕ) → c < 3 → (P Q : List ℤ) → Share 3 (points_at 3 3 0 P) (points_at 3 3 0 Q) → best_at smaller c Q ≤ℤ best_at larger c P
along c h P Q shared = by_test (lt_z (best_at larger c P) (best_at smaller c Q)) refl
  where
    by_test : (t : Bool) → lt_z (best_at larger c P) (best_at smaller c Q) ≡ t → best_at smaller c Q ≤ℤ best_at larger c P
    by_test true e = absurd (apart_at c h P Q e shared)
    by_test false e = lt_false e

-- So at each of the six ends the box of P reaches that of Q.
pub boxes_reach : (P Q : List ℤ) → Share 3 (points_at 3 3 0 P) (points_at 3 3 0 Q) → Reaches (box_of P) (box_of Q)
boxes_reach P Q shared zero h = along 0 (omega arith) P Q shared
boxes_reach P Q shared (suc zero) h = along 1 (omega arith) P Q shared
boxes_reach P Q shared (suc (suc zero)) h = along 2 (omega arith) P Q shared
boxes_reach P Q shared (suc (suc (suc zero))) h = mirror_le (best_at smaller 0 P) (best_at larger 0 Q) (along 0 (omega arith) Q P (share_trade shared))
boxes_reach P Q shared (suc (suc (suc (suc zero)))) h = mirror_le (best_at smaller 1 P) (best_at larger 1 Q) (along 1 (omega arith) Q P (share_trade shared))
boxes_reach P Q shared (suc (suc (suc (suc (suc zero))))) h = mirror_le (best_at smaller 2 P) (best_at larger 2 Q) (along 2 (omega arith) Q P (share_trade shared))
boxes_reach P Q shared (suc (suc (suc (suc (suc (suc e)))))) h = absurd (omega arith)

-- ---- boxes that are apart
mirror_twice : (z : ℤ) → mirror (mirror z) ≡ z
mirror_twice (pos n) = refl
mirror_twice (negsuc n) = refl

mirror_back : (x y : ℤ) → mirror x ≤ℤ mirror y → y ≤ℤ x
mirror_back x y h = subst₂ ◌≤ℤ◌ (mirror_twice y) (mirror_twice x) (mirror_le (mirror x) (mirror y) h)

not_before : {x y : ℤ} → y ≤ℤ x → lt_z x y ≡ false
not_before {x} {y} h = by_test (lt_z x y) refl
  where
    by_test : (t : Bool) → lt_z x y ≡ t → t ≡ false
    by_test true e = clash_ℤ (lt_true e) h
    by_test false e = refl

-- A box that reaches another is not apart from it.
pub reaching_boxes : (first second : List ℤ) → Reaches first second → boxes_apart first second ≡ false
reaching_boxes first second reaches =
    λ i. cond (neither 0 (reaches 0 (omega arith)) (reaches 3 (omega arith)) i) true
    (cond (neither 1 (reaches 1 (omega arith)) (reaches 4 (omega arith)) i) true (neither 2 (reaches 2 (omega arith)) (reaches 5 (omega arith)) i))
  where
    neither : (c : ℕ) → get_or second c (pos 0) ≤ℤ get_or first (c + 3) (pos 0) → mirror (get_or second (c + 3) (pos 0)) ≤ℤ mirror (get_or first c (pos 0)) →
        apart_along c first second ≡ false
    neither c ahead behind = λ i. cond (not_before ahead i) true (not_before (mirror_back (get_or second (c + 3) (pos 0)) (get_or first c (pos 0)) behind) i)
