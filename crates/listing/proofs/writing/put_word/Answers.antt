-- `listing::writing::put_word` meets its contract: each turn writes the pair of the lowest bit that is set and drops that bit. Assumes nothing.
use mathlib.Core.Path.{ap, subst, ◌∙◌}
use mathlib.Core.List.{List, [], ◌∷◌}
use Prim.Native.Nat.{ℕ, ◌+◌, ◌<◌, ◌≤◌}
use native.Mathlib.Numerals.{add-one}
use native.Mathlib.Omega.{arith}
use lib.ListN.{length, set, length-set}
use Rattle.words.specs.Bits.{Takes}
use Rattle.listing.specs.Pairs.{two_each}
use Rattle.listing.specs.Writing.{word_pairs}
use Rattle.listing.proofs.Filling.{Filling, filling_starts, room_for_more, filled_one_by_one, filling_ends}
use Rattle.listing.proofs.Telling.{next_pair, no_more}
use Rattle.listing.proofs.writing.put_word.Invariants.{told}
use Rattle.listing.proofs.writing.put_word.Goals as goal

module _ {all before out : List ℕ} {at z word rest : ℕ} (i from : ℕ) (step : Takes word z rest)
    (f : Filling all before (told i from word) out at) (fits : length all ≤ length before) where
  next : Filling all before (i ∷ (from + z) ∷ told i from rest) out at
  next = subst (λ (l : List ℕ). Filling all before l out at) (ap two_each (next_pair step.lowest i from 64 step.within)) f

  room : at + 1 < length out
  room = omega (arith, room_for_more (i ∷ (from + z) ∷ []) (told i from rest) next fits, f.inside)

  written : Filling all before (told i from rest) (set (set out at i) (at + 1) (from + z)) (at + 2)
  written = rw add-one (filled_one_by_one (i ∷ (from + z) ∷ []) (told i from rest) next fits)

pub loop-z-init : goal.loop-z-init
loop-z-init c =
    let a = c.args in
    rw c.into_iter-z-iterator.ensures.into_iter_gives (filling_starts (told a.i a.from a.word) a.out.now)

pub bounds-out-at-in-loop-z : goal.bounds-out-at-in-loop-z
bounds-out-at-in-loop-z c =
    let a = c.args in
    rw length-set (room a.i a.from c.in-Some.ensures.steps c.loop-z.invariant c.requires.1)

pub bounds-out-at : goal.bounds-out-at
bounds-out-at c = omega (arith, simp length-set at (bounds-out-at-in-loop-z c))

pub loop-z-preserved : goal.loop-z-preserved
loop-z-preserved c =
    let a = c.args in
    written a.i a.from c.in-Some.ensures.steps c.loop-z.invariant c.requires.1

pub returns : goal.returns
returns c =
    let l = c.loop-z in
    let a = c.args in
    let all = told a.i a.from a.word in
    let none = ap (word_pairs a.i a.from 64) c.in-None.ensures.steps.0 ∙ no_more a.i a.from 64 in
    filling_ends (subst (λ (r : List ℕ). Filling all a.out.now r l.out l.at) (ap two_each none) l.invariant)
