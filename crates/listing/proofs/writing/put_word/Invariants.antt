-- `listing::writing::put_word` meets its contract: each turn writes the pair of the lowest bit that is set and drops that bit. Assumes nothing.
use Rattle.std.proofs.Common.{ℕ, List}
use Rattle.listing.specs.Pairs.{two_each}
use Rattle.listing.specs.Writing.{word_pairs}
use Rattle.listing.proofs.Filling.{Filling}
use Rattle.listing.proofs.writing.put_word.Given as goal

-- what a word tells: the pair of its lowest bit that is set, and then what the word without that bit tells
abbrev pub told : ℕ → ℕ → ℕ → List ℕ
told i from word = two_each (word_pairs i from 64 word)

abbrev pub invariant-loop-z : goal.invariant-loop-z
invariant-loop-z l =
    Filling (told l.i l.from l.word) l.initial.out (told l.i l.from l.z-iterator.0) l.out l.at
