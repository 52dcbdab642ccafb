-- Two lists of triangles whose normals and planes are known (src/deciding.rt).
use Rattle.std.specs.Prelude.{◌≡◌, false}
use Rattle.exact.specs.Small.{BothNarrow}
use Rattle.boxes.specs.Boxes.{Prepared, Planned}
use Rattle.deciding.specs.declared.deciding.Lists.{Lists}

-- The normals of both are known, and their planes unless all numbers are small.
pub record Readied (l : Lists) : Type 0 where
  pub first : Prepared l.first.numbers.now l.first.normals.now
  pub second : Prepared l.second.numbers.now l.second.normals.now
  pub planned : l.narrow ≡ false → Planned l.first.numbers.now l.first.planes.now × Planned l.second.numbers.now l.second.planes.now
  pub small : BothNarrow l.narrow l.first.numbers.now l.second.numbers.now
