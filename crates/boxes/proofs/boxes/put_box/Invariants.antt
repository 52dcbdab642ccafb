-- `boxes::boxes::put_box` meets its contract: at the coordinates before c the least and the greatest stand. Assumes nothing.
use Rattle.std.proofs.Common.{ℕ, ◌<◌}
use Rattle.boxes.proofs.BoxLaws.{Bounded}
use Rattle.boxes.proofs.boxes.put_box.Given as goal

abbrev pub invariant-loop-c : goal.invariant-loop-c
invariant-loop-c l = (k : ℕ) → k < l.c → Bounded l.bounds l.corners k
