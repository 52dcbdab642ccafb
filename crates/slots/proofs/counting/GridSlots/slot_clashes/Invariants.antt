-- `slots::counting::GridSlots::slot_clashes` meets its contract: n are the clashes with the first j slots. Assumes nothing.
use Rattle.std.proofs.Common.{◌≡◌, List, ◌≤◌, take, get_or}
use Rattle.slots.specs.Slots.{Slot, free}
use Rattle.slots.specs.Counting.{row}
use Rattle.slots.specs.Showing.{Shown}
use Rattle.slots.proofs.counting.GridSlots.slot_clashes.Given as goal

abbrev pub invariant-loop-j : goal.invariant-loop-j
invariant-loop-j l = (l.n ≤ l.j) × ((S : List Slot) → Shown S l.self.slots.now.coords l.self.slots.now.marks → l.n ≡ row (get_or S l.i free) (take l.j S))
