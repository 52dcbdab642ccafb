-- `listing::writing::put_pairs` meets its contract: each turn writes what the next word tells. Assumes nothing.
use mathlib.Core.Path.{◌≡◌, ap, subst, ◌∙◌}
use mathlib.Core.List.{List, ◌++◌}
use Prim.Native.Nat.{ℕ, suc, ◌+◌, ◌-◌, ◌<◌}
use native.Mathlib.Omega.{arith}
use lib.ListN.{length}
use Rattle.listing.specs.Pairs.{gathered, two_each}
use Rattle.listing.specs.Writing.{told_by}
use Rattle.listing.proofs.Filling.{Filling, filling_starts, length_free, room_for_more, filled_on, filling_ends}
use Rattle.listing.proofs.Gathering.{two_each_append}
use Rattle.listing.proofs.writing.put_pairs.Goals as goal

-- what word k tells, and what the words after it do

abbrev here : List ℕ → ℕ → List ℕ
here words k = two_each (told_by words k)

abbrev later : List ℕ → ℕ → ℕ → List ℕ
later words end k = two_each (gathered (told_by words) (k + 1) (end - (k + 1)))

split : (words : List ℕ) (end k : ℕ) → k < end →
    two_each (gathered (told_by words) k (end - k)) ≡ here words k ++ later words end k
split words end k h =
    let rest = end - (k + 1) in
    ap (λ (r : ℕ). two_each (gathered (told_by words) k r)) {x = end - k} {y = suc rest} (omega arith)
    ∙ two_each_append (told_by words k) (gathered (told_by words) (suc k) rest)
    ∙ ap (λ (n : ℕ). here words k ++ two_each (gathered (told_by words) n rest)) {x = suc k} {y = k + 1} (omega arith)

next : (words : List ℕ) (end k : ℕ) {all before out : List ℕ} {at : ℕ} → k < end →
    Filling all before (two_each (gathered (told_by words) k (end - k))) out at → Filling all before (here words k ++ later words end k) out at
next words end k {all} {before} {out} {at} h = subst (λ (l : List ℕ). Filling all before l out at) (split words end k h)

pub loop-k-init : goal.loop-k-init
loop-k-init c =
    let a = c.args in
    let all : length a.words.now - 0 ≡ length a.words.now = omega arith in
    rw all (filling_starts (two_each (gathered (told_by a.words.now) 0 (length a.words.now))) a.out.now)

pub put_word-at-requires : goal.put_word-at-requires
put_word-at-requires c =
    let l = c.loop-k in
    let words = c.args.words.now in
    let f = next words (length words) l.k c.loop-k-test.true l.invariant in
    (omega arith, rw (length_free l.at l.out) (room_for_more (here words l.k) (later words (length words) l.k) f c.requires.1))

pub overflow_add-at : goal.overflow_add-at
overflow_add-at c =
    let l = c.loop-k in
    let words = c.args.words.now in
    let f = next words (length words) l.k c.loop-k-test.true l.invariant in
    omega (arith, c.put_word-at.ensures.many, room_for_more (here words l.k) (later words (length words) l.k) f c.requires.1, l.invariant.inside)

pub loop-k-preserved : goal.loop-k-preserved
loop-k-preserved c =
    let l = c.loop-k in
    let words = c.args.words.now in
    let f = next words (length words) l.k c.loop-k-test.true l.invariant in
    filled_on (here words l.k) (later words (length words) l.k) f c.requires.1 c.put_word-at.ensures

pub returns : goal.returns
returns c =
    let l = c.loop-k in
    let a = c.args in
    let told = told_by a.words.now in
    let none : length a.words.now - l.k ≡ 0 = omega (arith, c.loop-k-test.false) in
    filling_ends
    (subst (λ (r : ℕ). Filling (two_each (gathered told 0 (length a.words.now))) a.out.now (two_each (gathered told l.k r)) l.out l.at) none
    l.invariant)
