-- When a call on a plate is refused: document 01's table with document 02's reason 16, and their order of reasons.
use Rattle.std.specs.Prelude.{cond, List, ℕ, ltb, ℤ, length, get_or}
use Rattle.checks.specs.Answers.{refused, Check, fine, ◌then◌}
use Rattle.checks.specs.Rules.{right_length, refuses_flat, shape_checks}
use Rattle.slots.specs.Slots.{Slot, free, is_free, is_of}
use Rattle.slots.specs.Parts.{triangles_of}
use Rattle.slots.specs.Changes.{Change, place, lift, shift, thrice}
use Rattle.shape.specs.Lists.{some, lowest}
use Rattle.shape.specs.Shells.{is_closed}
use Rattle.slots.specs.Leaving.{leaves}

-- ---- the reasons
-- Reason 6: slot above 63.
abbrev pub slot_within : ℕ → Check
slot_within s = cond (ltb 63 s) (refused 6 0 s) fine

-- Reason 7: part above 15.
abbrev pub part_within : ℕ → ℕ → Check
part_within side q = cond (ltb 15 q) (refused 7 side q) fine

-- Reason 8: place into a filled slot.
abbrev pub slot_free : List Slot → ℕ → Check
slot_free S s = cond (is_free (get_or S s free)) fine (refused 8 0 s)

-- Reason 9: lift of an empty slot.
abbrev pub slot_filled : List Slot → ℕ → Check
slot_filled S s = cond (is_free (get_or S s free)) (refused 9 0 s) fine

-- Reason 10: no triangle of that part.
abbrev pub part_present : ℕ → List Slot → ℕ → Check
part_present side S q = cond (some (is_of q) S) fine (refused 10 side q)

-- Reason 11: a shift would take a coordinate off the grid. The place is the lowest such slot.
abbrev pub part_stays : List Slot → ℕ → List ℤ → Check
part_stays S q by = cond (ltb (lowest (leaves q by) S) (length S)) (refused 11 0 (lowest (leaves q by) S)) fine

-- Reason 16: the shell of that part is open.
abbrev pub shell_closed : ℕ → List Slot → ℕ → Check
shell_closed side S q = cond (is_closed (triangles_of q S)) fine (refused 16 side q)

-- ---- the order
-- Place: 6, 7, 3, 1, 2, 8. Lift: 6, 9. Shift: 7, 10, 11.
unfoldable pub change_checks : List Slot → Change → Check
change_checks S (place s q numbers) =
    slot_within s then part_within 0 q then right_length 0 9 numbers then shape_checks refuses_flat 3 3 0 numbers then slot_free S s
change_checks S (lift s) = slot_within s then slot_filled S s
change_checks S (shift q dx dy dz) = part_within 0 q then part_present 0 S q then part_stays S q (thrice dx dy dz)

-- Parts: 7 for p, 7 for q, 10 for p, 10 for q; and of two parts whose skins don't meet, 16 for p, 16 for q.
abbrev pub parts_checks : List Slot → ℕ → ℕ → Check
parts_checks S p q = part_within 0 p then part_within 1 q then part_present 0 S p then part_present 1 S q

abbrev pub shell_checks : List Slot → ℕ → ℕ → Check
shell_checks S p q = shell_closed 0 S p then shell_closed 1 S q
