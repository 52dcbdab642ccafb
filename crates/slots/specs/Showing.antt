-- What the functions on the arrays take for granted and promise: slots as the arrays show them, slots moved there, and the triangles of a part gathered
-- from them.
use Rattle.std.specs.Prelude.{◌≡◌, List, map, ℕ, suc, ◌+◌, ◌*◌, ◌≤◌, ℤ, get_or, length, set, take, drop}
use Rattle.shape.specs.TriangleLists.{triangles_in}
use Rattle.exact.specs.Grid.{Ready}
use Rattle.slots.specs.Slots.{Slot, free}
use Rattle.slots.specs.Parts.{triangles_of}
use Rattle.slots.specs.Changes.{shifted}
use Rattle.slots.specs.Arrays.{numbers_of, mark_of, flat}

-- A slot that the arrays can show and the tests can take: nine numbers on the grid. (An empty one has nine zeros.)
abbrev pub FitSlot : Slot → Type 0
FitSlot x = Ready 9 (numbers_of x)

-- 64 such slots. (Past the end stands an empty one.)
pub record Fit (S : List Slot) : Type 0 where
  pub long : length S ≡ 64
  pub each : (i : ℕ) → FitSlot (get_or S i free)

-- The nine numbers at slot i of the coordinates.
abbrev pub nine_at : ℕ → List ℤ → List ℤ
nine_at i coords = take 9 (drop (9 * i) coords)

-- The arrays show these slots.
pub record Shown (S : List Slot) (coords : List ℤ) (parts : List ℕ) : Type 0 where
  pub fit : Fit S
  pub coords_are : coords ≡ flat S
  pub parts_are : parts ≡ map mark_of S

-- A slot moved in the coordinates, if it has the mark.
pub record SlotMoved (coords : List ℤ) (parts : List ℕ) (i mark : ℕ) (by : List ℤ) (r : List ℤ) : Type 0 where
  pub is : (S : List Slot) (q : ℕ) → Shown S coords parts → mark ≡ suc q → FitSlot (shifted q by (get_or S i free)) → r ≡ flat (set S i (shifted q by (get_or S i free)))

-- A part moved in the coordinates. Where a slot would leave the grid nothing is said.
pub record PartMoved (coords : List ℤ) (parts : List ℕ) (mark : ℕ) (by : List ℤ) (r : List ℤ) : Type 0 where
  pub is : {S : List Slot} (q : ℕ) → Shown S coords parts → mark ≡ suc q → Fit (map (shifted q by) S) → r ≡ flat (map (shifted q by) S)

-- The triangles of a part among the first slots, so many, stood at the front of a list; now those among the slots up to slot i do.
pub record SlotGathered (coords : List ℤ) (parts : List ℕ) (i mark : ℕ) (before : List ℤ) (many : ℕ) (after : List ℤ) (r : ℕ) : Type 0 where
  pub most : r ≤ many + 1
  pub ready : Ready 576 after
  pub is : (S : List Slot) (q : ℕ) → Shown S coords parts → mark ≡ suc q → triangles_in many before ≡ triangles_of q (take i S) →
      triangles_in r after ≡ triangles_of q (take (i + 1) S)

-- The triangles of a part, so many, stand at the front of a list, all of whose numbers are on the grid.
pub record Gathered (coords : List ℤ) (parts : List ℕ) (mark : ℕ) (after : List ℤ) (many : ℕ) : Type 0 where
  pub most : many ≤ 64
  pub ready : Ready 576 after
  pub is : (S : List Slot) (q : ℕ) → Shown S coords parts → mark ≡ suc q → triangles_in many after ≡ triangles_of q S
