-- `listing::writing::put_pairs` meets its contract: each turn writes what the next word tells. Assumes nothing.
use Rattle.std.proofs.Common.{length, ◌-◌}
use Rattle.listing.specs.Pairs.{gathered, two_each}
use Rattle.listing.specs.Writing.{told_by}
use Rattle.listing.proofs.Filling.{Filling}
use Rattle.listing.proofs.writing.put_pairs.Given as goal

abbrev pub invariant-loop-k : goal.invariant-loop-k
invariant-loop-k l =
    Filling (two_each (gathered (told_by l.words) 0 (length l.words))) l.initial.out (two_each (gathered (told_by l.words) l.k (length l.words - l.k))) l.out l.at
