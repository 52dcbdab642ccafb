-- Slots in two flat arrays: their coordinates and their marks.
use Rattle.std.specs.Prelude.{List, [], ◌∷◌, ◌++◌, ℕ, suc, ℤ, pos, replicate}
use Rattle.slots.specs.Slots.{Slot, free, held}

-- The nine numbers of a slot: its triangle's, or zeros where it is empty.
abbrev pub numbers_of : Slot → List ℤ
numbers_of free = replicate 9 (pos 0)
numbers_of (held p numbers) = numbers

-- The mark of a slot: 0 where it is empty, else its part number plus one.
abbrev pub mark_of : Slot → ℕ
mark_of free = 0
mark_of (held p numbers) = suc p

-- The numbers of all slots, one slot after the other.
unfoldable pub flat : List Slot → List ℤ
flat [] = []
flat (x ∷ S) = numbers_of x ++ flat S
