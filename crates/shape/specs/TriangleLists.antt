-- The triangles at the front of a list of numbers, nine numbers each. No public promise speaks of them.
use Rattle.std.specs.Prelude.{List, [], ◌∷◌, ◌++◌, map, ℕ, zero, suc, ◌*◌, ℤ}
use Rattle.shape.specs.Points.{Shape, points_at}

-- The triangle with index i, and the first n.
abbrev pub triangle_at : ℕ → List ℤ → Shape
triangle_at i numbers = points_at 3 3 (9 * i) numbers

unfoldable pub triangles_in : ℕ → List ℤ → List Shape
triangles_in zero numbers = []
triangles_in (suc n) numbers = triangles_in n numbers ++ (triangle_at n numbers ∷ [])

-- The triangle whose nine numbers fill a list, and those of so many lists.
abbrev pub triangle_of : List ℤ → Shape
triangle_of = points_at 3 3 0

abbrev pub triangles_of : List (List ℤ) → List Shape
triangles_of = map triangle_of
