-- The one theorem of the crate, `estimate_near`: on the grid the estimate is a whole number, no farther than 15 · 2^40 from the exact side. A line of the table in
-- specs/Doubles.antt is a law here. Assumes nothing.
use mathlib.Core.Path.{◌≡◌, refl, sym, ◌∙◌, subst}
use mathlib.Core.List.{[], ◌∷◌}
use Prim.Native.Nat.{ℕ, ◌+◌, ◌*◌, ◌^◌, ◌≤◌}
use native.Mathlib.Omega.{arith}
use lib.Dec.{lit≤}
use lib.IntN.{ℤ, nat_abs, ◌+ℤ◌, ◌-ℤ◌, ◌*ℤ◌, neg_ℤ-neg_ℤ}
use lib.Ieee.{Float, binary64, sub}
use Rattle.algebra.proofs.Expression.{◌⊞◌, ◌⊠◌}
use Rattle.algebra.proofs.Solver.{◌≗◌, solve}
use Rattle.shape.specs.Points.{Point, coord}
use Rattle.shape.specs.Signs.{row, side}
use Rattle.shape.specs.Normals.{dot, normal_of}
use Rattle.shape.proofs.Planes.{side_by_normal}
use Rattle.shape.proofs.SignLaws.{carry_past}
use Rattle.estimates.specs.Doubles.{grid_end, OnGrid, double, rough, component, plane_of, product, estimate, Near, error_limit}
use Rattle.estimates.specs.declared.Plane.{Plane}
use Rattle.estimates.specs.declared.RoughPoint.{RoughPoint}
use Rattle.estimates.proofs.Wholes.{Estimates, double_whole}
use Rattle.estimates.proofs.Errors.{Exactly, difference_exact, product_of_exact, difference_estimates, product_estimates, sum_estimates}

-- ---- the exact side
-- A normal times a row is the row times the normal.
dot_turned : (u v w x y z : ℤ) → u *ℤ x +ℤ v *ℤ y +ℤ w *ℤ z ≡ x *ℤ u +ℤ y *ℤ v +ℤ z *ℤ w
dot_turned = solve 6 (λ u v w x y z. u ⊠ x ⊞ v ⊠ y ⊞ w ⊠ z ≗ x ⊠ u ⊞ y ⊠ v ⊞ z ⊠ w) (tt, refl)

-- (b - a) × (c - a) times a - d is [a,b,c,d].
pub side_from_a : (a b c d : Point) → dot (normal_of b c a) (row a d) ≡ side a b c d
side_from_a a b c d =
    dot_turned (coord 0 (normal_of b c a)) (coord 1 (normal_of b c a)) (coord 2 (normal_of b c a)) (coord 0 (row a d)) (coord 1 (row a d)) (coord 2 (row a d))
    ∙ side_by_normal b c a d
    ∙ sym (carry_past [] a (b ∷ c ∷ []) (d ∷ []) ∙ neg_ℤ-neg_ℤ (side b c a d))

-- ---- the table, line by line
-- How large a difference of coordinates can be, 2^31.
abbrev gap_size : ℕ
gap_size = grid_end + grid_end

-- A difference of coordinates.
gap_exact : (a b : Point) → OnGrid a → OnGrid b → (i : ℕ) → Exactly (sub binary64 (double (coord i a)) (double (coord i b))) (coord i a -ℤ coord i b) gap_size
gap_exact a b on-a on-b i = difference_exact (coordinate a on-a) (coordinate b on-b) (lit≤ tt)
  where
    coordinate : (p : Point) → OnGrid p → Exactly (double (coord i p)) (coord i p) grid_end
    coordinate p on = record { whole = double_whole (coord i p) (omega (arith, on i)); size = on i }

-- A component.
component_estimates : {p q s t : Float} {i j k l : ℤ} → Exactly p i gap_size → Exactly q j gap_size → Exactly s k gap_size → Exactly t l gap_size →
    Estimates (component p q s t) (i *ℤ j -ℤ k *ℤ l) (2 ^ 11) (2 ^ 63)
component_estimates p q s t =
    difference_estimates 10 (product_of_exact 9 p q (lit≤ tt) (lit≤ tt)) (product_of_exact 9 s t (lit≤ tt) (lit≤ tt)) (lit≤ tt) (lit≤ tt)

-- Three components times three differences, added left to right.
product_near : {n : Plane} {u : RoughPoint} {i j k x y z : ℤ} →
    Estimates n.x i (2 ^ 11) (2 ^ 63) → Estimates n.y j (2 ^ 11) (2 ^ 63) → Estimates n.z k (2 ^ 11) (2 ^ 63) →
    Exactly u.x x gap_size → Exactly u.y y gap_size → Exactly u.z z gap_size →
    Estimates (product n u) (i *ℤ x +ℤ j *ℤ y +ℤ k *ℤ z) (30 * 2 ^ 40) (2 ^ 96)
product_near nx ny nz ux uy uz =
    sum_estimates 43
    (sum_estimates 42 (product_estimates 41 nx ux (lit≤ tt) (lit≤ tt)) (product_estimates 41 ny uy (lit≤ tt) (lit≤ tt)) (lit≤ tt) (lit≤ tt))
    (product_estimates 41 nz uz (lit≤ tt) (lit≤ tt)) (lit≤ tt) (lit≤ tt)

-- ---- the theorem
-- The estimate of the side of d to the plane of a, b, c.
pub estimate_near : (a b c d : Point) → OnGrid a → OnGrid b → OnGrid c → OnGrid d →
    Near (estimate (plane_of (rough a) (rough b) (rough c)) (rough a) (rough d)) (side a b c d) error_limit
estimate_near a b c d on-a on-b on-c on-d =
    let v = gap_exact b a on-b on-a in
    let w = gap_exact c a on-c on-a in
    let u = gap_exact a d on-a on-d in
    let x = component_estimates (v 1) (w 2) (v 2) (w 1) in
    let y = component_estimates (v 2) (w 0) (v 0) (w 2) in
    let z = component_estimates (v 0) (w 1) (v 1) (w 0) in
    let e = product_near {n = plane_of (rough a) (rough b) (rough c)} x y z (u 0) (u 1) (u 2) in
    record {
      number = e.number;
      whole = e.whole;
      near = subst (λ (z : ℤ). nat_abs (e.number -ℤ z) ≤ error_limit) (side_from_a a b c d) (omega (arith, e.off));
    }
