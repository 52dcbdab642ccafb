-- What estimates tell of the signs of a triangle's corners, all at once (specs/Spaces.antt). Assumes nothing.
use mathlib.Core.Path.{◌≡◌, refl, sym, ap, subst, ◌∙◌}
use mathlib.Core.Bool.{Bool, true, false, not, ◌&&◌, ◌||◌, cond, true≢false}
use Prim.Native.Nat.{ℕ, ◌+◌, ◌-◌, ◌*◌, ◌≤◌, ◌<◌}
use native.Mathlib.Omega.{arith}
use lib.Dec.{eqb}
use lib.Ieee.{Float}
use mir.Val.{bool_byte}
use Rattle.shape.specs.Points.{Point}
use Rattle.shape.specs.SpaceTest.{level, is_above}
use Rattle.estimates.specs.Doubles.{far_above, far_below}
use Rattle.estimates.proofs.Told.{Told}
use Rattle.exact.proofs.Branches.{bit≤, both_true}
use Rattle.exact.proofs.LevelLaws.{far_above_law, far_below_law}
use Rattle.space.specs.Spaces.{sure, sure_level, Guesses, Crosses, Stands}

-- ---- flags
none_doubted : (b : Bool) → 1 - bool_byte b ≡ 0 → b ≡ true
none_doubted true e = refl
none_doubted false e = absurd (omega arith)

-- ---- one estimate
pub level_small : (e : Float) → sure_level e ≤ 2
level_small e = omega (arith, bit≤ (far_above e))

-- A sure one tells the level.
pub sure_told : {e : Float} {a b c d : Point} → Told e a b c d → sure e ≡ true → sure_level e ≡ level a b c d
sure_told {e} {a} {b} {c} {d} told sure_of_it = by_side (far_above e) (far_below e) refl refl sure_of_it
  where
    by_side : (v w : Bool) → far_above e ≡ v → far_below e ≡ w → v || w ≡ true → 2 * bool_byte (far_above e) ≡ level a b c d
    by_side true w above below s = ap (λ (v : Bool). 2 * bool_byte v) above ∙ far_above_law told refl above
    by_side false true above below s = ap (λ (v : Bool). 2 * bool_byte v) above ∙ far_below_law told refl below
    by_side false false above below s =
        let same : ◌≡◌ {A = ℕ} 0 1 = cc in
        absurd (omega arith)

-- ---- three at once
pub guessed : {x y z : Float} {a b c p q r : Point} → Told x a b c p → Told y a b c q → Told z a b c r →
    Guesses (9 * level a b c p + 3 * level a b c q + level a b c r) (9 * sure_level x + 3 * sure_level y + sure_level z) (sure x && sure y && sure z)
guessed {x} {y} {z} tx ty tz = record {
  right = λ all.
      let two = both_true (sure x && sure y) (sure z) all in
      let one = both_true (sure x) (sure y) two.0 in
      λ i. 9 * sure_told tx one.0 i + 3 * sure_told ty one.1 i + sure_told tz two.1 i;
  small = omega (arith, level_small x, level_small y, level_small z);
}

-- The standing that a guess names, and 16 more where it is in doubt.
pub guessed_standing : {p q guess s : ℕ} {sure : Bool} → Guesses p guess sure → p ≡ q → Stands guess s → s + 16 * bool_byte (not sure) < 16 →
    Stands q (s + 16 * bool_byte (not sure))
guessed_standing {p} {q} {guess} {s} {sure = true} told same found few =
    let only : s + 16 * 0 ≡ s = omega arith in
    rw (only, sym same, sym (told.right refl)) found
guessed_standing {sure = false} told same found few = absurd (omega arith)

-- ---- two at once
set_and_clear : {X : Type 0} {b : Bool} → b ≡ true → b ≡ false → X
set_and_clear set clear = absurd (true≢false (sym set ∙ clear))

-- What lies far above zero does not lie far below it.
one_side : {e : Float} {a b c d : Point} → Told e a b c d → far_above e ≡ true → far_below e ≡ false
one_side {e} told above = by_side (far_below e) refl
  where
    by_side : (v : Bool) → far_below e ≡ v → far_below e ≡ false
    by_side false below = below
    by_side true below = absurd (omega (arith, far_above_law told refl above, far_below_law told refl below))

-- Two sure estimates that are both below tell that neither sign is above, and others that one is.
pub signs_told : {x y : Float} {a b c p d e f q : Point} → Told x a b c p → Told y d e f q →
    Crosses (cond (is_above a b c p) false (cond (is_above d e f q) false true)) (bool_byte (far_below x && far_below y) + 2 * (1 - bool_byte (sure x && sure y)))
signs_told {x} {y} {a} {b} {c} {p} {d} {e} {f} {q} tx ty few =
    let all = none_doubted (sure x && sure y) (omega (arith, bit≤ (sure x && sure y))) in
    let each = both_true (sure x) (sure y) all in
    sym (λ i. cond (eqb (sure_told tx each.0 i) 2) false (cond (eqb (sure_told ty each.1 i) 2) false true))
    ∙ by_sides (far_above x) (far_below x) (far_above y) (far_below y) each.0 each.1 (one_side tx) (one_side ty)
  where
    by_sides : (u v w z : Bool) → u || v ≡ true → w || z ≡ true → (u ≡ true → v ≡ false) → (w ≡ true → z ≡ false) →
        cond (eqb (2 * bool_byte u) 2) false (cond (eqb (2 * bool_byte w) 2) false true) ≡ eqb (bool_byte (v && z) + 2 * (1 - bool_byte ((u || v) && (w || z)))) 1
    by_sides true false true false su sw nu nw = refl
    by_sides true false false true su sw nu nw = refl
    by_sides false true true false su sw nu nw = refl
    by_sides false true false true su sw nu nw = refl
    by_sides true true w z su sw nu nw = set_and_clear refl (nu refl)
    by_sides true false true true su sw nu nw = set_and_clear refl (nw refl)
    by_sides true false false false su sw nu nw = set_and_clear sw refl
    by_sides false true true true su sw nu nw = set_and_clear refl (nw refl)
    by_sides false true false false su sw nu nw = set_and_clear sw refl
    by_sides false false w z su sw nu nw = set_and_clear su refl

-- The same of the flags that code found.
pub signs_found : (x y : Float) {verdict u v w z : Bool} →
    Crosses verdict (bool_byte (far_below x && far_below y) + 2 * (1 - bool_byte (sure x && sure y))) → u ≡ far_below x → v ≡ far_below y → w ≡ sure x → z ≡ sure y →
    Crosses verdict (bool_byte (u && v) + 2 * (1 - bool_byte (w && z)))
signs_found x y {verdict} told eu ev ew ez =
    subst (λ (n : ℕ). Crosses verdict n) (sym (λ i. bool_byte (eu i && ev i) + 2 * (1 - bool_byte (ew i && ez i)))) told
