-- `printing::reading::take_list` meets its contract: it takes 18 turns at most. Assumes nothing.
use Rattle.std.proofs.Common.{◌≡◌, ◌≤◌, length}
use Rattle.printing.proofs.reading.take_list.Given as goal

abbrev pub invariant-loop-n : goal.invariant-loop-n
invariant-loop-n l = (l.n ≤ 18) × (length l.numbers ≡ 18)
