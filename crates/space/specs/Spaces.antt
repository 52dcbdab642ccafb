-- The vocabulary of the tests in space: triangles as the code holds them and as lists, segments as lists, and the decisions of crate `shape`
-- (specs/SpaceTest.antt) on their corners and ends.
use Rattle.std.specs.Prelude.{◌≡◌, Bool, true, cond, ◌||◌, Option, Some, None, List, ℕ, zero, suc, ◌+◌, ◌*◌, ◌/◌, ◌%◌, ◌<◌, ◌≤◌, eqb, ltb, Float, ℤ}
use mir.Val.{bool_byte}
use Rattle.shape.specs.Points.{Point, point_at}
use Rattle.shape.specs.Signs.{row}
use Rattle.shape.specs.Normals.{normal_of}
use Rattle.shape.specs.SpaceTest.{level, Standing, beside, within, alone, standing, placed, last_signs}
use Rattle.estimates.specs.Doubles.{rough, plane_of, far_above, far_below}
use Rattle.estimates.specs.declared.Plane.{Plane}
use Rattle.exact.specs.Small.{narrow}
use Rattle.exact.specs.Vectors.{spatial, components, Sized, Holds, normal_in}
use Rattle.exact.specs.declared.points.SpacePoint.{SpacePoint}
use Rattle.exact.specs.declared.points.Normal.{Normal}
use Rattle.exact.specs.declared.points.Triangle.{Triangle}

-- The corners of t are a, b and c.
pub record SpaceAt (a b c : Point) (t : Triangle SpacePoint) : Type 0 where
  pub at_p : spatial t.p ≡ a
  pub at_q : spatial t.q ≡ b
  pub at_r : spatial t.r ≡ c

-- A function of triangles as one of their corners.
abbrev pub of_space : {X : Type 0} → (Point → Point → Point → X) → Triangle SpacePoint → X
of_space f t = f (spatial t.p) (spatial t.q) (spatial t.r)

abbrev pub of_spaces : {X : Type 0} → ((p1 q1 r1 p2 q2 r2 : Point) → X) → Triangle SpacePoint → Triangle SpacePoint → X
of_spaces f t = of_space (f (spatial t.p) (spatial t.q) (spatial t.r))

-- The same of the corners in lists of nine numbers.
abbrev pub of_list : {X : Type 0} → (Point → Point → Point → X) → List ℤ → X
of_list f l = f (point_at 3 0 l) (point_at 3 3 l) (point_at 3 6 l)

abbrev pub of_lists : {X : Type 0} → ((p1 q1 r1 p2 q2 r2 : Point) → X) → List ℤ → List ℤ → X
of_lists f k l = of_list (of_list f k) l

-- A function of a segment's ends and a triangle's corners, of their lists of six numbers and nine.
abbrev pub of_segment : {X : Type 0} → ((p q a b c : Point) → X) → List ℤ → List ℤ → X
of_segment f k l = of_list (f (point_at 3 0 k) (point_at 3 3 k)) l

-- The levels of p and q over the plane of a, b, c, read as one number: 0 and 8 where both are strictly on one side, 4 where both are on the plane.
abbrev pub ends_over : (p q a b c : Point) → ℕ
ends_over p q a b c = 3 * level a b c p + level a b c q

-- No coordinate of a corner is larger than n, whatever its sign.
pub record SizedSpace (n : ℕ) (t : Triangle SpacePoint) : Type 0 where
  pub at_p : Sized n (spatial t.p)
  pub at_q : Sized n (spatial t.q)
  pub at_r : Sized n (spatial t.r)

-- The vector n is the normal of t.
pub record IsNormal (t : Triangle SpacePoint) (n : Normal) : Type 0 where
  pub is : components n ≡ of_space normal_of t

-- The coordinate that a number names, where 3 names none, as `axis_of` of crate `shape` counts.
abbrev pub named_axis : ℕ → Option ℕ
named_axis k = cond (eqb k 3) None (Some k)

-- The plane is that of t, in doubles.
abbrev pub IsPlaneOf : Triangle SpacePoint → Plane → Type 0
IsPlaneOf t plane = plane ≡ of_space (λ a b c. plane_of (rough a) (rough b) (rough c)) t

-- The sides of the corners of t against the plane of u, nine numbers each, are so small that their low words tell them.
pub record SidesHold (t u : List ℤ) : Type 0 where
  pub at_p : Holds (row (point_at 3 6 u) (point_at 3 0 t)) (normal_in u)
  pub at_q : Holds (row (point_at 3 6 u) (point_at 3 3 t)) (normal_in u)
  pub at_r : Holds (row (point_at 3 6 u) (point_at 3 6 t)) (normal_in u)

-- All corners of two triangles are so near that low words tell every side, where the flag says so.
abbrev pub BothSized : Bool → (t u : Triangle SpacePoint) → Type 0
BothSized flag t u = flag ≡ true → SizedSpace narrow t × SizedSpace narrow u

-- ---- what estimates tell
-- An estimate is farther from zero than its error; and the level that it tells then, 2 above and 0 below.
abbrev pub sure : Float → Bool
sure e = far_above e || far_below e

abbrev pub sure_level : Float → ℕ
sure_level e = 2 * bool_byte (far_above e)

-- A pattern that was guessed, and whether that is sure.
pub record Guesses (pattern guessed : ℕ) (sure : Bool) : Type 0 where
  pub right : sure ≡ true → guessed ≡ pattern
  pub small : guessed ≤ 26

-- A verdict by a number, 1 for yes and 0 for no. From 2 on it tells nothing.
abbrev pub Crosses : Bool → ℕ → Type 0
Crosses verdict v = v < 2 → verdict ≡ eqb v 1

-- ---- standings by their numbers
-- The turns that a number tells, and whether the other triangle's last two corners have to be swapped.
abbrev pub turns_in : ℕ → ℕ
turns_in s = s % 4

abbrev pub swap_in : ℕ → Bool
swap_in s = ltb 7 s

abbrev pub told_standing : ℕ → Standing
told_standing zero = beside
told_standing (suc zero) = within
told_standing (suc (suc n)) = alone (turns_in (suc (suc n))) (swap_in (suc (suc n)))

-- A number that code gives to a standing: two turns at most, and 10 at most.
pub record Numbered (s : ℕ) : Type 0 where
  pub few : turns_in s ≤ 2
  pub small : s ≤ 10

-- The number s is that of the standing that the pattern p names.
pub record Stands (p s : ℕ) : Type 0 where
  pub told : told_standing s ≡ standing p
  pub number : Numbered s

-- ---- the corners in their new orders
-- The places in a triangle's list where its corners stand in the order that is asked for, where its standing is s and the other's r: a corner later for
-- each turn, and the last two swapped where r / 8 is 1 and not 0.
abbrev pub first_place : ℕ → ℕ
first_place s = 3 * turns_in s

abbrev pub second_place : (s r : ℕ) → ℕ
second_place s r = 3 * ((turns_in s + 1 + r / 8) % 3)

abbrev pub third_place : (s r : ℕ) → ℕ
third_place s r = 3 * ((turns_in s + 2 + 2 * (r / 8)) % 3)

-- The corners of t are those of the list in that order.
abbrev pub InOrder : (s r : ℕ) → List ℤ → Triangle SpacePoint → Type 0
InOrder s r l t = SpaceAt (point_at 3 (first_place s) l) (point_at 3 (second_place s r) l) (point_at 3 (third_place s r) l) t

-- The last signs of both triangles in the orders that their standings ask for.
abbrev pub last_signs_by : (s r : ℕ) → List ℤ → List ℤ → Bool
last_signs_by s r t u =
    of_list (placed (turns_in s) (swap_in r) (λ a b c. of_list (placed (turns_in r) (swap_in s) (last_signs a b c)) u)) t
