-- The count as code keeps it: a function, by the decision of crate `shape`. No public promise speaks of it: proofs/Clashing.antt shows that
-- it is the count of specs/Slots.antt, whatever the slots are.
use Rattle.std.specs.Prelude.{Bool, false, cond, List, [], ◌∷◌, ℕ, ◌+◌, eqb, ℤ}
use mir.Val.{bool_byte}
use Rattle.shape.specs.Points.{point_at}
use Rattle.shape.specs.WireTest.{triangles_test}
use Rattle.slots.specs.Slots.{Slot, free, held}
use Rattle.shape.specs.Lists.{some}
use Rattle.slots.specs.Arrays.{mark_of}

-- The test of two triangles, nine numbers each.
unfoldable pub meets : List ℤ → List ℤ → Bool
meets s t =
    triangles_test (point_at 3 0 s) (point_at 3 3 s) (point_at 3 6 s) (point_at 3 0 t) (point_at 3 3 t) (point_at 3 6 t)

-- Whether two slots clash.
unfoldable pub strikes : Slot → Slot → Bool
strikes free y = false
strikes (held p s) free = false
strikes (held p s) (held q t) = cond (eqb p q) false (meets s t)

-- The same as a number: 1 or 0.
unfoldable pub hit : Slot → Slot → ℕ
hit x y = bool_byte (strikes x y)

-- How many of the slots clash with x.
unfoldable pub row : Slot → List Slot → ℕ
row x [] = 0
row x (y ∷ S) = hit x y + row x S

-- How many pairs of slots clash: each slot against those after it.
unfoldable pub tally : List Slot → ℕ
tally [] = 0
tally (x ∷ S) = row x S + tally S

-- The clashes of a slot, if it has this mark.
unfoldable pub row_of : ℕ → Slot → List Slot → ℕ
row_of mark x S = cond (eqb (mark_of x) mark) (row x S) 0

-- The clashes of all slots of T with this mark.
unfoldable pub cross : ℕ → List Slot → List Slot → ℕ
cross mark [] S = 0
cross mark (x ∷ T) S = row_of mark x S + cross mark T S

-- ---- marks
-- Whether n is this mark.
abbrev pub has_mark : (mark n : ℕ) → Bool
has_mark mark n = eqb n mark

-- Whether y has this mark and clashes with x; whether some slot of S does.
abbrev pub strikes_if : ℕ → Slot → Slot → Bool
strikes_if mark x y = cond (eqb (mark_of y) mark) (strikes x y) false

abbrev pub strikes_mark : ℕ → Slot → List Slot → Bool
strikes_mark mark x S = some (strikes_if mark x) S

-- Whether x has the first mark and clashes with some slot of S that has the second; whether some slot of S does.
abbrev pub slot_strikes : (first second : ℕ) → List Slot → Slot → Bool
slot_strikes first second S x = cond (eqb (mark_of x) first) (strikes_mark second x S) false

abbrev pub marks_strike : (first second : ℕ) → List Slot → Bool
marks_strike first second S = some (slot_strikes first second S) S
