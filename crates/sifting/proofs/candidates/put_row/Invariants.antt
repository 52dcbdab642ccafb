-- `sifting::candidates::put_row` meets its contract: the words before w are written. Assumes nothing.
use Prim.Native.Nat.{ℕ, ◌<◌}
use lib.ListN.{get_or}
use Rattle.sifting.specs.Tables.{Joined}
use Rattle.sifting.proofs.candidates.put_row.Given as goal

abbrev pub invariant-loop-w : goal.invariant-loop-w
invariant-loop-w l = (v : ℕ) → v < l.w → Joined l.sieve.words l.rows v (get_or l.words v 0)
