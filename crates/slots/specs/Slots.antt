-- The slots of a plate, which of them clash, and how many pairs do (document 01, "The plate's calls").
use Rattle.std.specs.Prelude.{◌≡◌, Bool, true, false, List, [], ◌∷◌, ℕ, ◌+◌, eqb, ℤ}
use Rattle.shape.specs.Points.{Shape, points_at}
use Rattle.shape.specs.Sharing.{Share}
use Rattle.shape.specs.Lists.{HowMany}

-- A slot is empty, or it holds one triangle, as nine numbers, and its part number.
pub data Slot : Type 0 where
  free : Slot
  held : (part : ℕ) (numbers : List ℤ) → Slot

-- The triangle in nine numbers: x, y, z of each corner.
abbrev pub triangle : List ℤ → Shape
triangle numbers = points_at 3 3 0 numbers

abbrev pub is_free : Slot → Bool
is_free free = true
is_free (held p numbers) = false

-- Whether a slot holds a triangle of part q.
abbrev pub is_of : ℕ → Slot → Bool
is_of q free = false
is_of q (held p numbers) = eqb p q

-- ---- clashes
-- Two slots clash: both are filled, with different part numbers, and their triangles have a point in common.
abbrev pub Clash : Slot → Slot → Type 0
Clash free y = ⊥
Clash (held p s) free = ⊥
Clash (held p s) (held q t) = (p ≡ q → ⊥) × Share 3 (triangle s) (triangle t)

-- So many of these slots clash with x.
abbrev pub Clashing : Slot → List Slot → ℕ → Type 0
Clashing x = HowMany (Clash x)

-- So many pairs of these slots clash, each pair once: each slot is taken with those after it.
pub data Clashes : List Slot → ℕ → Type 0 where
  empty : Clashes [] 0
  with : {x : Slot} {S : List Slot} {m n : ℕ} → Clashing x S m → Clashes S n → Clashes (x ∷ S) (m + n)
