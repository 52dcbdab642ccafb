-- Inside (document 02, Q-4): an odd number of triangles ahead in the +x direction, the point being moved by a vanishing positive amount in y and a
-- still smaller one in z. In whole numbers: for every n large enough, all coordinates are taken n times n, and the point then gets n more in y and
-- 1 more in z. A triangle whose yz shadow is flat is never counted.
use Rattle.std.specs.Prelude.{◌≡◌, Bool, true, false, not, List, [], ◌∷◌, map, ℕ, zero, suc, ◌≤◌, ℤ, pos, ◌+ℤ◌, ◌*ℤ◌, ◌<ℤ◌}
use Rattle.shape.specs.Points.{Point, Shape, coord}
use Rattle.shape.specs.Flat.{Flat}
use Rattle.shape.specs.Sharing.{PointOf}
use Rattle.shape.specs.Lists.{HowMany}

-- ---- all coordinates n times n, and the point moved
-- n times n, as a whole number.
abbrev pub square : ℕ → ℤ
square n = pos n *ℤ pos n

abbrev pub enlarged : ℕ → Point → Point
enlarged n a = (square n *ℤ coord 0 a) ∷ (square n *ℤ coord 1 a) ∷ (square n *ℤ coord 2 a) ∷ []

abbrev pub nudged : ℕ → Point → Point
nudged n p = (square n *ℤ coord 0 p) ∷ (square n *ℤ coord 1 p +ℤ pos n) ∷ (square n *ℤ coord 2 p +ℤ pos 1) ∷ []

-- ---- ahead in the +x direction
-- Some point of the shape P has the y and the z of the point d, and a larger x. (x names that point of P, taken s times.)
pub record Ahead (P : Shape) (d : Point) : Type 0 where
  pub s : ℕ
  pub x : Point
  pub of_shape : PointOf 3 P s x
  pub same_y : coord 1 x ≡ pos s *ℤ coord 1 d
  pub same_z : coord 2 x ≡ pos s *ℤ coord 2 d
  pub larger_x : (pos s *ℤ coord 0 d) <ℤ coord 0 x

-- The yz shadow of a point.
abbrev pub shadow_of : Point → Point
shadow_of a = coord 1 a ∷ coord 2 a ∷ []

-- A triangle is counted for n. One whose yz shadow is flat never is.
pub record Counted (n : ℕ) (p : Point) (P : Shape) : Type 0 where
  pub not_upright : Flat 2 (map shadow_of P) → ⊥
  pub ahead : Ahead (map (enlarged n) P) (nudged n p)

-- ---- an odd number of them
abbrev pub is_odd : ℕ → Bool
is_odd zero = false
is_odd (suc k) = not (is_odd k)

-- An odd number of these triangles is counted for n.
pub record OddAhead (n : ℕ) (p : Point) (Ps : List Shape) : Type 0 where
  pub count : ℕ
  pub counted : HowMany (Counted n p) Ps count
  pub odd : is_odd count ≡ true

-- The point p is inside the shell of these triangles: for every n large enough an odd number of them is counted.
pub record Inside (p : Point) (Ps : List Shape) : Type 0 where
  pub enough : ℕ
  pub from_there : (n : ℕ) → enough ≤ n → OddAhead n p Ps
