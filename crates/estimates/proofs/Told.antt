-- What an estimate tells: where it is farther from zero than its error can be, its sign is that of the exact side; elsewhere the side is no larger than
-- twice the error. `told` is the law that callers use. Assumes nothing.
use mathlib.Core.Path.{◌≡◌, sym, subst}
use mathlib.Core.Bool.{true, false}
use Prim.Native.Nat.{◌+◌, ◌≤◌}
use lib.IntN.{pos, negsuc, nat_abs}
use lib.Ieee.{Float}
use Rattle.shape.specs.Points.{Point}
use Rattle.shape.specs.Signs.{side, sign}
use Rattle.estimates.specs.Doubles.{OnGrid, rough, plane_of, estimate, error_limit, far_above, far_below}
use Rattle.estimates.specs.declared.Plane.{Plane}
use Rattle.estimates.specs.declared.RoughPoint.{RoughPoint}
use Rattle.estimates.proofs.Sides.{estimate_near}
pub use Rattle.estimates.proofs.Limit.{limit_bits}
pub use Rattle.estimates.proofs.Signs.{near_above, near_below, near_between}

-- What the estimate e tells of the side of d to the plane of a, b, c.
pub record Told (e : Float) (a b c d : Point) : Type 0 where
  pub above : far_above e ≡ true → sign (side a b c d) ≡ pos 1
  pub below : far_below e ≡ true → sign (side a b c d) ≡ negsuc 0
  pub between : far_above e ≡ false → far_below e ≡ false → nat_abs (side a b c d) ≤ error_limit + error_limit

-- Where code holds the plane of a, b, c and the points a and d as doubles, all on the grid.
pub told : {n : Plane} {p q : RoughPoint} (a b c d : Point) → OnGrid a → OnGrid b → OnGrid c → OnGrid d →
    n ≡ plane_of (rough a) (rough b) (rough c) → p ≡ rough a → q ≡ rough d → Told (estimate n p q) a b c d
told a b c d on-a on-b on-c on-d the-plane the-a the-d =
    let near = estimate_near a b c d on-a on-b on-c on-d in
    subst (λ (e : Float). Told e a b c d) (λ i. estimate (sym the-plane i) (sym the-a i) (sym the-d i))
    (record { above = near_above near; below = near_below near; between = near_between near })
