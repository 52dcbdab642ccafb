-- `sifting::candidates::put_one_by_one` meets its contract: the words before k are written, and the next leaves them. Assumes nothing.
use Prim.Native.Nat.{◌/◌, ◌<◌}
use native.Mathlib.Omega.{arith}
use borrow.Author.Rules.{rules}
use lib.ListN.{length}
use Rattle.algebra.proofs.Copying.{written_hold}
use Rattle.words.specs.Spans.{first_of, span}
use Rattle.boxes.specs.Boxes.{six}
use Rattle.sifting.specs.Tables.{Candidates}
use Rattle.sifting.proofs.candidates.put_one_by_one.Goals as goal

pub loop-k-preserved : goal.loop-k-preserved
loop-k-preserved c =
    let l = c.loop-k in
    let a = c.args in
    let many = length a.boxes.now / 6 in
    let inside : l.k < length l.word-items = omega arith in
    let this : Candidates (six (l.k / 16) a.bounds.now) a.boxes.now (first_of l.k) (span many (first_of l.k)) c.word_where.result = rw (← c.span_of.ensures) (record { small = c.word_where.ensures.small; set = λ t h reached. let told = c.word_where.ensures.told t h in search rules }) in
    written_hold l.k l.word-items c.word_where.result 0 (λ j w. Candidates (six (j / 16) a.bounds.now) a.boxes.now (first_of j) (span many (first_of j)) w) inside this l.invariant
