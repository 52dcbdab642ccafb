-- `sifting::rows::Sieve::rows_of` meets its contract: a row is sought for each end. Assumes nothing.
use Prim.Native.Nat.{ℕ, ◌<◌}
use lib.ListN.{get_or}
use Rattle.sifting.specs.Ends.{reach_of}
use Rattle.sifting.specs.Tables.{RowFor}
use Rattle.sifting.proofs.tables.Sieve.rows_of.Given as goal

abbrev pub invariant-loop-e : goal.invariant-loop-e
invariant-loop-e l = (d : ℕ) → d < l.e → RowFor l.self.marks d (reach_of d l.bounds) (get_or l.row-items d 0)
