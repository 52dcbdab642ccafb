-- The triangles whose flatness a call asks about, as src/kinds.rt names them: in how many coordinates.
use Rattle.std.specs.Prelude.{ℕ}
use Rattle.kernel.specs.declared.kinds.Kind.{Kind}
use Rattle.kernel.specs.declared.kinds.Kind.TheVariants.{PlaneTriangle, SpaceTriangle}

abbrev pub coordinates_of : Kind → ℕ
coordinates_of PlaneTriangle = 2
coordinates_of SpaceTriangle = 3
