-- Having a point in common (document 01, "Having a point in common"), for any number of coordinates and of corners.
use Rattle.std.specs.Prelude.{◌≡◌, List, [], ◌∷◌, ℕ, ◌+◌, ◌≤◌, ◌<◌, length, ℤ, pos, ◌+ℤ◌, ◌*ℤ◌}
use Rattle.shape.specs.Points.{Point, Shape, coord}

-- The sum of the weights.
abbrev pub total : List ℕ → ℕ
total [] = 0
total (w ∷ ws) = w + total ws

-- The sum of w · f(a) over the corners a and their weights w. With f a coordinate it is the weighted sum in that coordinate.
abbrev pub weigh : (Point → ℤ) → List ℕ → Shape → ℤ
weigh f [] P = pos 0
weigh f (w ∷ ws) [] = pos 0
weigh f (w ∷ ws) (a ∷ P) = pos w *ℤ f a +ℤ weigh f ws P

-- A point of the shape P in n coordinates: a mixture of its corners with whole weights of zero or more whose sum s is at
-- least 1. It is named by s and by x, the weighted sum in each coordinate (x is the point itself, taken s times).
pub record PointOf (n : ℕ) (P : Shape) (s : ℕ) (x : Point) : Type 0 where
  pub weights : List ℕ
  pub each : length weights ≡ length P
  pub sum : total weights ≡ s
  pub some : 1 ≤ s
  pub mixed : (i : ℕ) → i < n → weigh (coord i) weights P ≡ coord i x

-- The shapes P and Q have a point in common: one s and one weighted sum that is a point of both.
pub record Share (n : ℕ) (P Q : Shape) : Type 0 where
  pub s : ℕ
  pub x : Point
  pub of_first : PointOf n P s x
  pub of_second : PointOf n Q s x
