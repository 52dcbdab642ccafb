-- `deciding::deciding::decide_words` meets its contract: the words before k are decided, and the others still have their candidates. Assumes nothing.
use mathlib.Core.Path.{◌≡◌}
use Prim.Native.Nat.{ℕ, ◌≤◌}
use lib.ListN.{get_or}
use Rattle.deciding.specs.Words.{Decided}
use Rattle.deciding.proofs.deciding.decide_words.Given as goal

abbrev pub invariant-loop-k : goal.invariant-loop-k
invariant-loop-k l =
    Decided l.lists.first.numbers.now l.lists.second.numbers.now l.words l.k l.found × ((j : ℕ) → l.k ≤ j → get_or l.words j 0 ≡ get_or l.initial.words j 0)
