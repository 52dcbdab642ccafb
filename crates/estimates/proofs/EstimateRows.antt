-- Rows of `estimate`: four points, and the double that it is by computing alone. A small one, one at the ends of the grid, and one at which rounding shows;
-- and request Q-7's own figure for how far off it may be. Assumes nothing.
use mathlib.Core.Path.{◌≡◌, refl}
use mathlib.Core.List.{[], ◌∷◌}
use Prim.Native.Nat.{◌^◌}
use lib.IntN.{ℤ, pos, negsuc, neg_ℤ}
use lib.Ieee.{Float, of_int, add, sub, mul}
use Rattle.shape.specs.Points.{Point}
use Rattle.shape.specs.Signs.{side}
use Rattle.estimates.specs.Doubles.{double, rough, plane_of, estimate, error_limit}

abbrev estimate_at : (a b c d : Point) → Float
estimate_at a b c d = estimate (plane_of (rough a) (rough b) (rough c)) (rough a) (rough d)

abbrev at : (x y z : ℤ) → Point
at x y z = x ∷ y ∷ z ∷ []

-- 15 x 2^40 (16,492,674,416,640).
pub limit_row : error_limit ≡ 16492674416640
limit_row = refl

-- The side of (0,0,0) (1,0,0) (0,1,0) (0,0,1) is -1, and so is its estimate.
pub unit_row : estimate_at (at (pos 0) (pos 0) (pos 0)) (at (pos 1) (pos 0) (pos 0)) (at (pos 0) (pos 1) (pos 0)) (at (pos 0) (pos 0) (pos 1)) ≡ double (negsuc 0)
unfolding of_int add sub mul
unit_row = refl

-- With E the end of the grid, (E,E,-E) (E,-E,E) (-E,E,E) (-E,-E,-E): -2^94.
abbrev E : ℤ
E = pos 1073741824

pub ends_row : estimate_at (at E E (neg_ℤ E)) (at E (neg_ℤ E) E) (at (neg_ℤ E) E E) (at (neg_ℤ E) (neg_ℤ E) (neg_ℤ E)) ≡ double (neg_ℤ (pos (2 ^ 94)))
unfolding of_int add sub mul
ends_row = refl

-- Four points of one plane, the corners of a parallelogram: the side is 0, and the estimate is -2,710,469,214,208.
abbrev a : Point
a = at (neg_ℤ (pos 1073740973)) (pos 1073741363) (pos 1073740960)

abbrev b : Point
b = at (pos 1073740877) (neg_ℤ (pos 1073740940)) (pos 1073740902)

abbrev c : Point
c = at (neg_ℤ (pos 1073740862)) (pos 1073741095) (neg_ℤ (pos 1073741593))

abbrev d : Point
d = at (pos 1073740988) (neg_ℤ (pos 1073741208)) (neg_ℤ (pos 1073741651))

pub in_plane_row : (side a b c d ≡ pos 0) × (estimate_at a b c d ≡ double (neg_ℤ (pos 2710469214208)))
unfolding of_int add sub mul
in_plane_row = (refl, refl)
