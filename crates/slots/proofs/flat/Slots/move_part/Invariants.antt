-- `slots::flat::Slots::move_part` meets its contract: the coordinates are those of the slots with the first i moved. Assumes nothing.
use Rattle.std.proofs.Common.{◌≡◌, List, ℕ, suc, map}
use Rattle.moving.specs.Moves.{steps}
use Rattle.slots.specs.Slots.{Slot}
use Rattle.slots.specs.Changes.{shifted}
use Rattle.slots.specs.Arrays.{flat}
use Rattle.slots.specs.Showing.{Fit, Shown}
use Rattle.slots.proofs.PartLaws.{begun}
use Rattle.slots.proofs.flat.Slots.move_part.Given as goal

abbrev pub invariant-loop-i : goal.invariant-loop-i
invariant-loop-i l =
    (l.self.marks ≡ l.fn.self.marks)
    × ((S : List Slot) (q : ℕ) → Shown S l.fn.self.coords l.fn.self.marks → l.mark ≡ suc q → Fit (map (shifted q (steps l.back l.by)) S) →
    l.self.coords ≡ flat (begun q (steps l.back l.by) S l.i))
