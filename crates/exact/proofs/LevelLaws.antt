-- Levels by what the estimate tells, and by the normal. Assumes nothing.
use Rattle.std.proofs.Common.{◌≡◌, ℕ, ◌^◌, ◌<◌, ◌≤◌, Bool, true, false, cond, [], ◌∷◌, ℤ, nat_abs, sym, refl, ap, ◌∙◌, subst, arith}
use lib.Ieee.{Float}
use Rattle.algebra.proofs.Expression.{◌⊞◌, ◌⊠◌}
use Rattle.algebra.proofs.Solver.{ring}
use Rattle.shape.specs.Points.{Point}
use Rattle.shape.specs.Signs.{row, side, sign, digit}
use Rattle.shape.specs.Normals.{dot, normal_of}
use Rattle.shape.specs.SpaceTest.{level}
use Rattle.shape.proofs.Symbols.{values, point, row_e, minor_e, side_e}
use Rattle.estimates.specs.Doubles.{rough, plane_of, estimate, far_above, far_below}
use Rattle.estimates.specs.declared.Plane.{Plane}
use Rattle.estimates.specs.declared.RoughPoint.{RoughPoint}
use Rattle.estimates.proofs.Told.{Told, told}
use Rattle.exact.specs.Grid.{limit}
use Rattle.exact.specs.Vectors.{Sized, Holds}

-- ---- by the normal
-- The side of d is the row a - d times the normal, too.
side_from_first : (a b c d : Point) → dot (row a d) (normal_of a b c) ≡ side a b c d
side_from_first a b c d =
    let u = row_e (point 0) (point 3) in
    let v = row_e (point 0) (point 2) in
    let w = row_e (point 1) (point 2) in
    ring (values (a ∷ b ∷ c ∷ d ∷ [])) (u 0 ⊠ minor_e 1 2 v w ⊞ u 1 ⊠ minor_e 2 0 v w ⊞ u 2 ⊠ minor_e 0 1 v w) (side_e 0 1 2 3) tt refl

-- So the level over the plane through a that has the normal of a, b, c is that of [a,b,c,d].
pub level_from_first : {n : Point} (a b c d : Point) → n ≡ normal_of a b c → digit (sign (dot (row a d) n)) ≡ level a b c d
level_from_first a b c d e = ap (λ (n : Point). digit (sign (dot (row a d) n))) e ∙ ap (λ (z : ℤ). digit (sign z)) (side_from_first a b c d)

-- ---- by the estimate
-- The estimate that code found of points of the grid tells what it may.
pub estimate_told : {n : Plane} {p q : RoughPoint} {e : Float} {a b c d : Point} → Sized limit a → Sized limit b → Sized limit c → Sized limit d →
    n ≡ plane_of (rough a) (rough b) (rough c) → p ≡ rough a → q ≡ rough d → e ≡ estimate n p q → Told e a b c d
estimate_told {a} {b} {c} {d} sa sb sc sd the-plane the-a the-d found =
    subst (λ (x : Float). Told x a b c d) (sym found) (told a b c d sa.each sb.each sc.each sd.each the-plane the-a the-d)

-- Far above zero and far below it, by the test r that code asked.
pub far_above_law : {e : Float} {a b c d : Point} {r : Bool} → Told e a b c d → r ≡ far_above e → r ≡ true → 2 ≡ level a b c d
far_above_law t f taken = sym (ap digit (t.above (sym f ∙ taken)))

pub far_below_law : {e : Float} {a b c d : Point} {r : Bool} → Told e a b c d → r ≡ far_below e → r ≡ true → 0 ≡ level a b c d
far_below_law t f taken = sym (ap digit (t.below (sym f ∙ taken)))

-- What it tells first, and where it can't, what the low word does: the side is no larger than twice the error then.
pub told_first : {e : Float} {a b c d : Point} {low : ℕ} → Told e a b c d → (nat_abs (side a b c d) < 2 ^ 63 → low ≡ level a b c d) →
    cond (far_above e) 2 (cond (far_below e) 0 low) ≡ level a b c d
told_first {e} {a} {b} {c} {d} {low} t exactly = by_tests (far_above e) (far_below e) refl refl
  where
    by_tests : (above below : Bool) → far_above e ≡ above → far_below e ≡ below → cond above 2 (cond below 0 low) ≡ level a b c d
    by_tests true below u v = far_above_law t refl u
    by_tests false true u v = far_below_law t refl v
    by_tests false false u v = exactly (omega (arith, t.between u v))

pub told_first_small : (above below : Bool) (low : ℕ) → low ≤ 2 → cond above 2 (cond below 0 low) ≤ 2
told_first_small true below low h = omega arith
told_first_small false true low h = omega arith
told_first_small false false low h = h

-- A side that is small is held by the row and the normal that it is the product of.
pub side_held : {n : Point} (a b c d : Point) → n ≡ normal_of a b c → nat_abs (side a b c d) < 2 ^ 63 → Holds (row a d) n
side_held a b c d e small =
    record { below = subst (λ (z : ℤ). nat_abs z < 2 ^ 63) (sym (ap (dot (row a d)) e ∙ side_from_first a b c d)) small }
