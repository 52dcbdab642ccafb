-- `sifting::candidates::put_one_by_one` meets its contract: the words before k are written, and the next leaves them. Assumes nothing.
use Prim.Native.Nat.{◌/◌}
use lib.ListN.{length}
use Rattle.sifting.specs.Tables.{CandidatesBelow}
use Rattle.sifting.proofs.candidates.put_one_by_one.Given as goal

abbrev pub invariant-loop-k : goal.invariant-loop-k
invariant-loop-k l = CandidatesBelow l.bounds l.boxes (length l.boxes / 6) l.word-items l.k
