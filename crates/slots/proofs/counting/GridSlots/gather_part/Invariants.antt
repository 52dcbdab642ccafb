-- `slots::counting::GridSlots::gather_part` meets its contract: the list holds the triangles of the part among the first i slots. Assumes nothing.
use Rattle.std.proofs.Common.{◌≡◌, ℕ, suc, ◌≤◌, List, take}
use Rattle.shape.specs.TriangleLists.{triangles_in}
use Rattle.exact.specs.Grid.{Ready}
use Rattle.slots.specs.Slots.{Slot}
use Rattle.slots.specs.Parts.{triangles_of}
use Rattle.slots.specs.Showing.{Shown}
use Rattle.slots.proofs.counting.GridSlots.gather_part.Given as goal

abbrev pub invariant-loop-i : goal.invariant-loop-i
invariant-loop-i l =
    (l.many ≤ l.i) × Ready 576 l.triangles
    × ((S : List Slot) (q : ℕ) → Shown S l.self.slots.now.coords l.self.slots.now.marks → l.mark ≡ suc q → triangles_in l.many l.triangles ≡ triangles_of q (take l.i S))
