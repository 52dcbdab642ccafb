-- `sifting::rows::Sieve::row_of` meets its contract: no more marks are passed than were looked at. Assumes nothing.
use Prim.Native.Nat.{◌≤◌}
use Rattle.sifting.proofs.tables.Sieve.row_of.Given as goal

abbrev pub invariant-loop-mark : goal.invariant-loop-mark
invariant-loop-mark l = l.passed ≤ l.mark-index
