-- The normal of a plane of space: a vector, held as points are. It is made of the 2 by 2 minors of [a,b,c,X], which are the same for every X (document
-- 000): what asks a plane several times takes them once. No public promise speaks of it.
use Rattle.std.specs.Prelude.{cond, [], ◌∷◌, ℕ, ℤ, ◌+ℤ◌, ◌*ℤ◌}
use Rattle.shape.specs.Points.{Point, coord}
use Rattle.shape.specs.Signs.{row, minor}
use Rattle.shape.specs.Flat.{is_zero}

-- The three 2 by 2 minors of the rows v and w, with the signs that they have in the determinant.
abbrev pub minors : Point → Point → Point
minors v w = minor 1 2 v w ∷ minor 2 0 v w ∷ minor 0 1 v w ∷ []

-- A row times a normal. Of the row c - x and the normal of a, b, c it is [a,b,c,x]: side-by-normal in proofs/Planes.antt.
abbrev pub dot : Point → Point → ℤ
dot u n = coord 0 u *ℤ coord 0 n +ℤ coord 1 u *ℤ coord 1 n +ℤ coord 2 u *ℤ coord 2 n

-- The normal of the plane of a, b, c. Its coordinates are the turns of the three points without x, without y and without z.
abbrev pub normal_of : Point → Point → Point → Point
normal_of a b c = minors (row a c) (row b c)

-- A coordinate at which a normal is not zero, z before y before x; 3 where there is none.
abbrev pub axis_of : Point → ℕ
axis_of n = cond (is_zero (coord 2 n)) (cond (is_zero (coord 1 n)) (cond (is_zero (coord 0 n)) 3 0) 1) 2
