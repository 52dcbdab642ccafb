-- The call that a field of a job sheet asks for (document 02, Q-2).
use Rattle.std.specs.Prelude.{List, ℕ, get_or, drop}
use Rattle.shape.specs.Points.{coord}
use Rattle.slots.specs.Changes.{Change, place, lift, shift}
use Rattle.plate.specs.Histories.{Call, change, undo}
use Rattle.packing.specs.Reading.{numbers_in}
use Rattle.fields.specs.declared.tags.Tag.{Tag}
use Rattle.fields.specs.declared.tags.Tag.TheVariants.{Place, Lift, Shift, Undo}

-- Place: slot, part, nine numbers.
abbrev pub place_in : List ℕ → Change
place_in body = place (get_or body 0 0) (get_or body 1 0) (numbers_in 9 (drop 2 body))

-- Lift: slot.
abbrev pub lift_in : List ℕ → Change
lift_in body = lift (get_or body 0 0)

-- Shift: part, three numbers.
abbrev pub shift_in : List ℕ → Change
shift_in body = let by = numbers_in 3 (drop 1 body) in shift (get_or body 0 0) (coord 0 by) (coord 1 by) (coord 2 by)

-- What each tag asks for.
unfoldable pub call_of : (tag : Tag) (body : List ℕ) → Call
call_of Place body = change (place_in body)
call_of Lift body = change (lift_in body)
call_of Shift body = change (shift_in body)
call_of Undo body = undo
