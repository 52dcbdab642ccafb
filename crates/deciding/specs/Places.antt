-- The pairs of triangles that the places of a word mean (src/places.rt).
use Rattle.std.specs.Prelude.{◌≡◌, true, false, List, ℕ, ◌+◌, ◌*◌, ◌<◌, ◌≤◌, ℤ, length}
use Rattle.exact.specs.Grid.{Ready}
use Rattle.exact.specs.Small.{BothNarrow}
use Rattle.exact.specs.Vectors.{normal_in}
use Rattle.kernel.specs.Standings.{IsPlane}
use Rattle.words.specs.Bits.{bit}
use Rattle.boxes.specs.Triangles.{triangles, nine}
use Rattle.boxes.specs.Boxes.{three}
use Rattle.deciding.specs.declared.places.Row.{Row}
use Rattle.deciding.specs.declared.places.Pairs.{Pairs}

-- Where the triangle of place z stands in the list of a row.
abbrev pub index_of : Row → ℕ → ℕ
index_of row z = row.from + row.step * z

-- The triangle of place z.
abbrev pub lined : Row → ℕ → List ℤ
lined row z = nine (index_of row z) row.bed.numbers.now

-- The same pairs, the other triangle first.
abbrev pub turned : Pairs → Pairs
turned p = record { narrow = p.narrow; first = p.second; second = p.first }

-- The list of a row has a triangle for the place, on the grid, and its normal is known.
pub record Meant (row : Row) (z : ℕ) : Type 0 where
  pub there : index_of row z < triangles row.bed.numbers.now
  pub ready : Ready 9 (lined row z)
  pub room : 3 * index_of row z + 3 ≤ length row.bed.normals.now
  pub normal : three (index_of row z) row.bed.normals.now ≡ normal_in (lined row z)

-- So is its plane in doubles.
pub record Planed (row : Row) (z : ℕ) : Type 0 where
  pub room : 3 * index_of row z + 3 ≤ length row.bed.planes.now
  pub plane : IsPlane (lined row z) (three (index_of row z) row.bed.planes.now)

-- The two triangles of a place, with their planes unless all numbers are small.
pub record Paired (p : Pairs) (z : ℕ) : Type 0 where
  pub first : Meant p.first z
  pub second : Meant p.second z
  pub planed : p.narrow ≡ false → Planed p.first z × Planed p.second z
  pub small : BothNarrow p.narrow (lined p.first z) (lined p.second z)

-- Each place that is asked means a pair.
abbrev pub Posed : Pairs → (asked : ℕ) → Type 0
Posed p asked = (z : ℕ) → bit z asked ≡ true → Paired p z
