-- Points and shapes, and how a list of numbers is read as them (document 01, "Grid, lists and sizes").
-- A point is the list of its coordinates, x first. A shape is the list of its corners: one is a point, two a segment,
-- three a triangle. One set of words so serves the plane, space and any number of corners.
use Rattle.std.specs.Prelude.{List, [], ◌∷◌, map, ℕ, zero, suc, ◌+◌, get_or, ℤ, pos, ◌+ℤ◌}

abbrev pub Point : Type 0
Point = List ℤ

abbrev pub Shape : Type 0
Shape = List Point

-- Coordinate i of a point, counted from 0. A coordinate that the list lacks is 0.
abbrev pub coord : ℕ → Point → ℤ
coord i a = get_or a i (pos 0)

-- The point of n coordinates that stands in a list of numbers from position p on.
abbrev pub point_at : ℕ → ℕ → List ℤ → Point
point_at zero p numbers = []
point_at (suc n) p numbers = get_or numbers p (pos 0) ∷ point_at n (suc p) numbers

-- The m points of n coordinates each that stand in a list of numbers from position p on.
abbrev pub points_at : ℕ → ℕ → ℕ → List ℤ → List Point
points_at n zero p numbers = []
points_at n (suc m) p numbers = point_at n p numbers ∷ points_at n m (p + n) numbers

-- The point a moved by the vector d: coordinate by coordinate.
abbrev pub moved : Point → Point → Point
moved [] a = a
moved (d ∷ ds) [] = d ∷ ds
moved (d ∷ ds) (x ∷ xs) = (d +ℤ x) ∷ moved ds xs

-- Every corner of a shape moved by the vector d.
abbrev pub moved_all : Point → Shape → Shape
moved_all d P = map (moved d) P
