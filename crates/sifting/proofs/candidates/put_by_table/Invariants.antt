-- `sifting::candidates::put_by_table` meets its contract: the words of the boxes before i are written, and those of the next leave them. Assumes nothing.
use Prim.Native.Nat.{◌*◌, ◌/◌}
use lib.ListN.{length}
use Rattle.sifting.specs.Tables.{CandidatesBelow}
use Rattle.sifting.proofs.candidates.put_by_table.Given as goal

abbrev pub invariant-loop-i : goal.invariant-loop-i
invariant-loop-i l = CandidatesBelow l.bounds l.boxes (length l.boxes / 6) l.words (l.i * 16)
