-- The estimate of document 02, Q-7, in IEEE 754's doubles as the kit defines them (`lib.Ieee`, `binary64`): which double it is, what it is for a double to be
-- a whole number, and how far the estimate may be from the exact side. proofs/Sides.antt shows that it is no farther.
use Rattle.std.specs.Prelude.{◌≡◌, Bool, true, false, ℕ, ◌*◌, ◌^◌, ◌≤◌, ℤ, pos, neg_ℤ, nat_abs, ◌-ℤ◌, Float}
use Rattle.std.specs.Float.{binary64}
use Rattle.std.specs.Float.Ieee.{of_int, add, sub, mul, neg, lt}
use Rattle.std.specs.Float.Ieee.Exact.{HasValue}
use Rattle.shape.specs.Points.{Point, coord}
use Rattle.estimates.specs.declared.RoughPoint.{RoughPoint}
use Rattle.estimates.specs.declared.Plane.{Plane}

-- ---- points of the grid as doubles
-- The end of the grid (Q-6), 2^30: `limit` of crate `exact` is the same number.
abbrev pub grid_end : ℕ
grid_end = 1073741824

-- No coordinate of the point is larger, whatever its sign.
abbrev pub OnGrid : Point → Type 0
OnGrid p = (i : ℕ) → nat_abs (coord i p) ≤ grid_end

-- A whole number as a double. Up to 2^53 nothing is rounded.
abbrev pub double : ℤ → Float
double z = of_int binary64 z

-- A point as doubles.
abbrev pub rough : Point → RoughPoint
rough p = record { x = double (coord 0 p); y = double (coord 1 p); z = double (coord 2 p) }

-- ---- the estimate
-- b - a in x, y and z. On the grid these are exact.
abbrev pub difference : RoughPoint → RoughPoint → RoughPoint
difference b a = record { x = sub binary64 b.x a.x; y = sub binary64 b.y a.y; z = sub binary64 b.z a.z }

-- A component of the normal: p q - s t, the rounded difference of two rounded products.
abbrev pub component : (p q s t : Float) → Float
component p q s t = sub binary64 (mul binary64 p q) (mul binary64 s t)

-- v cross w.
abbrev pub cross : RoughPoint → RoughPoint → Plane
cross v w = record {
  x = component v.y w.z v.z w.y;
  y = component v.z w.x v.x w.z;
  z = component v.x w.y v.y w.x;
}

-- The plane of a, b, c: b - a cross c - a.
abbrev pub plane_of : RoughPoint → RoughPoint → RoughPoint → Plane
plane_of a b c = cross (difference b a) (difference c a)

-- A normal times a difference: three rounded products, added left to right.
abbrev pub product : Plane → RoughPoint → Float
product n u = add binary64 (add binary64 (mul binary64 n.x u.x) (mul binary64 n.y u.y)) (mul binary64 n.z u.z)

-- The estimate of the side of d to a plane through a: the normal times a - d.
abbrev pub estimate : Plane → RoughPoint → RoughPoint → Float
estimate n a d = product n (difference a d)

-- ---- what a double is worth
-- The whole number of this size, below zero where it is negative.
abbrev pub signed : (negative : Bool) (size : ℕ) → ℤ
signed false n = pos n
signed true n = neg_ℤ (pos n)

-- The double x is the whole number z. So it is no infinity and no NaN. (The kit's `HasValue x s n 1`: x is finite, has the sign s, and is n / 1 in size.)
pub record Whole (x : Float) (z : ℤ) : Type 0 where
  pub negative : Bool
  pub size : ℕ
  pub has : HasValue x negative size 1
  pub is : signed negative size ≡ z

-- The double x is a whole number, no farther than `most` from z.
pub record Near (x : Float) (z : ℤ) (most : ℕ) : Type 0 where
  pub number : ℤ
  pub whole : Whole x number
  pub near : nat_abs (number -ℤ z) ≤ most

-- ---- how far off the estimate may be
-- 15 · 2^40. A double keeps 53 binary digits, so that a result of up to 2^(53 + j) in size is off by at most half of 2^j. Twice the error of each step, with
-- what the step takes over from those before it:
--
--                                      size up to       twice its error, up to
--   a difference of coordinates        2^31             0: it is exact
--   a product of two                   2^62 = 2^(53+9)  2^9
--   a component, the difference of two 2^63 = 2^(53+10) 2^9 + 2^9 + 2^10 = 2^11
--   a component times a difference     2^94 = 2^(53+41) 2^11 · 2^31 + 2^41 = 6 · 2^40
--   the first two of these added       2^95 = 2^(53+42) 6 · 2^40 + 6 · 2^40 + 2^42 = 16 · 2^40
--   all three                          2^96 = 2^(53+43) 16 · 2^40 + 6 · 2^40 + 2^43 = 30 · 2^40
abbrev pub error_limit : ℕ
error_limit = 15 * 2 ^ 40

-- Whether an estimate is farther than that from zero, above it and below it. At exactly that distance neither holds.
abbrev pub far_above : Float → Bool
far_above e = lt (double (pos error_limit)) e

abbrev pub far_below : Float → Bool
far_below e = lt e (neg (double (pos error_limit)))
