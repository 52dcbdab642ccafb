-- `sifting::tables::Sieve::put_rows` meets its contract: the words before k are written, and the next leaves them. Assumes nothing.
use Prim.Native.Nat.{ℕ, ◌/◌, ◌<◌}
use lib.ListN.{length}
use Rattle.sifting.specs.Tables.{SiftsAt}
use Rattle.sifting.proofs.tables.Sieve.put_rows.Given as goal

abbrev pub invariant-loop-k : goal.invariant-loop-k
invariant-loop-k l = (j : ℕ) → j < l.k-counter → SiftsAt l.boxes l.marks (length l.boxes / 6) l.word-items j
