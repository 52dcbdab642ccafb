-- `deciding::deciding::decide_words` meets its contract: the words before k are decided, and the others still have their candidates. Assumes nothing.
use mathlib.Core.Path.{◌≡◌, refl, subst, ◌∙◌}
use Prim.Native.Nat.{ℕ, ◌*◌, ◌<◌}
use native.Mathlib.Omega.{arith}
use lib.Count.{ones-le}
use lib.ListN.{length}
use lib.Seq.{get_or-set_other}
use Rattle.words.proofs.BitLaws.{ones_counted}
use Rattle.boxes.specs.Triangles.{triangles}
use Rattle.deciding.specs.Words.{Decided}
use Rattle.deciding.proofs.WordLaws.{decided_on, few_below}
use Rattle.deciding.proofs.deciding.decide_words.Goals as goal

pub loop-k-init : goal.loop-k-init
loop-k-init c = (record { right = λ k h. absurd (omega arith); count = refl }, λ j h. refl)

pub decide_word_of-word-requires : goal.decide_word_of-word-requires
decide_word_of-word-requires c =
    let l = c.loop-k in
    let more = c.loop-k-test.true in
    (c.requires.0, more, rw (l.invariant.1 l.k (omega arith)) (c.requires.2 l.k more))

pub overflow_add-found : goal.overflow_add-found
overflow_add-found c =
    let l = c.loop-k in
    omega (
      arith,
      l.invariant.0.count,
      few_below (triangles c.args.lists.now.second.numbers.now) l.words l.k,
      c.from-found.ensures,
      ones-le 64 c.decide_word_of-word.result (omega arith),
      c.loop-k-test.true,
      c.requires.0.first.sound.few,
    )

pub loop-k-preserved : goal.loop-k-preserved
loop-k-preserved c =
    let l = c.loop-k in
    let k = l.k in
    let word = c.decide_word_of-word in
    let inside : k < length l.words = omega (arith, l.auto.words, c.requires.1, c.loop-k-test.true) in (
      decided_on inside l.invariant.0 word.ensures (c.from-found.ensures ∙ ones_counted _ word.result word.ensures.small),
      λ j h. get_or-set_other l.words k j word.result 0 (λ e. omega arith) ∙ l.invariant.1 j (omega arith),
    )

pub returns : goal.returns
returns c =
    let l = c.loop-k in
    let lists = c.args.lists.now in
    let end : l.k ≡ triangles lists.first.numbers.now * 16 = omega (arith, l.auto.k-end, c.loop-k-test.false) in
    let all = subst (λ (n : ℕ). Decided lists.first.numbers.now lists.second.numbers.now l.words n l.found) end l.invariant.0 in
    (all.right, all.count)
