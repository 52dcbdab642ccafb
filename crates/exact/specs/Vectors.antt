-- The vocabulary of the leaves in src/determinant.rt and src/levels.rt: points, rows and normals as the code holds them, the normal of a list's
-- triangle, and its plane in doubles. Words of the inside: no public contract speaks of them.
use Rattle.std.specs.Prelude.{◌≡◌, ◌^◌, ◌<◌, List, [], ◌∷◌, ℤ, unsigned_abs, Float}
use Rattle.shape.specs.Points.{Point, point_at}
use Rattle.shape.specs.Normals.{dot, normal_of}
use Rattle.estimates.specs.Doubles.{rough, plane_of}
use Rattle.estimates.specs.declared.Plane.{Plane}
use Rattle.exact.specs.Grid.{limit}
pub use Rattle.exact.specs.Sizes.{Sized, difference_size, minor_size, narrow_size}
use Rattle.exact.specs.declared.points.PlanePoint.{PlanePoint}
use Rattle.exact.specs.declared.points.SpacePoint.{SpacePoint}
use Rattle.exact.specs.declared.points.Row.{Row}
use Rattle.exact.specs.declared.points.Normal.{Normal}
use Rattle.exact.specs.declared.points.Vector.{Vector}

abbrev pub planar : PlanePoint → Point
planar p = p.x ∷ p.y ∷ []

abbrev pub spatial : SpacePoint → Point
spatial p = p.x ∷ p.y ∷ p.z ∷ []

abbrev pub differences : Row → Point
differences u = u.x ∷ u.y ∷ u.z ∷ []

abbrev pub components : Normal → Point
components n = n.x ∷ n.y ∷ n.z ∷ []

abbrev pub vector : Vector → Point
vector v = v.x ∷ v.y ∷ v.z ∷ []

-- The product of a row and a normal is so small that its low word tells it.
pub record Holds (u n : Point) : Type 0 where
  pub below : unsigned_abs (dot u n) < 2 ^ 63

-- The plane in doubles of a triangle whose first corner is a, and its normal.
pub record PlaneThrough (a normal : Point) (plane : Plane) : Type 0 where
  pub b : Point
  pub c : Point
  pub sized_b : Sized limit b
  pub sized_c : Sized limit c
  pub is : plane ≡ plane_of (rough a) (rough b) (rough c)
  pub normal_is : normal ≡ normal_of a b c

-- The normal of the triangle that fills a list of nine numbers.
abbrev pub normal_in : List ℤ → Point
normal_in numbers = normal_of (point_at 3 0 numbers) (point_at 3 3 numbers) (point_at 3 6 numbers)

-- Its plane in doubles.
abbrev pub plane_in : List ℤ → Plane
plane_in numbers = plane_of (rough (point_at 3 0 numbers)) (rough (point_at 3 3 numbers)) (rough (point_at 3 6 numbers))

-- The same as a row of three numbers.
abbrev pub plane_row : List ℤ → List Float
plane_row numbers = (plane_in numbers).x ∷ (plane_in numbers).y ∷ (plane_in numbers).z ∷ []
