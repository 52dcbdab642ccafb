-- `slots::counting::GridSlots::part_clashes` meets its contract: n are the clashes of those of the first i slots that have the mark. Assumes nothing.
use Rattle.std.proofs.Common.{◌≡◌, List, ◌*◌, ◌≤◌, take}
use Rattle.slots.specs.Slots.{Slot}
use Rattle.slots.specs.Counting.{cross}
use Rattle.slots.specs.Showing.{Shown}
use Rattle.slots.proofs.counting.GridSlots.part_clashes.Given as goal

abbrev pub invariant-loop-i : goal.invariant-loop-i
invariant-loop-i l = (l.n ≤ 64 * l.i) × ((S : List Slot) → Shown S l.self.slots.now.coords l.self.slots.now.marks → l.n ≡ cross l.mark (take l.i S) S)
