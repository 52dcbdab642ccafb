-- Whether a slot would leave the grid.
use Rattle.std.specs.Prelude.{Bool, false, not, cond, List, ℕ, eqb, ℤ}
use Rattle.shape.specs.Points.{moved}
use Rattle.checks.specs.Grid.{all_on}
use Rattle.slots.specs.Slots.{Slot, free, held}

-- Whether a slot is of part q and its triangle, moved by these steps, would have a coordinate off the grid.
abbrev pub leaves : ℕ → List ℤ → Slot → Bool
leaves q by free = false
leaves q by (held p numbers) = cond (eqb p q) (not (all_on (moved by numbers))) false
