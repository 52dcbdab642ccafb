-- `sifting::tables::Sieve::put_rows` meets its contract: the words before k are written, and the next leaves them. Assumes nothing.
use Prim.Native.Nat.{◌/◌, ◌<◌}
use native.Mathlib.Omega.{arith}
use lib.IntN.{pos}
use borrow.Author.Rules.{rules}
use lib.ListN.{length, get_or}
use Rattle.algebra.proofs.Copying.{written_hold}
use Rattle.words.specs.Spans.{first_of, span}
use Rattle.sifting.specs.Tables.{Sifts}
use Rattle.sifting.proofs.tables.Sieve.put_rows.Goals as goal

pub loop-k-preserved : goal.loop-k-preserved
loop-k-preserved c =
    let l = c.loop-k in
    let a = c.args in
    let k = l.k-counter in
    let marks = a.self.now.marks in
    let many = length a.boxes.now / 6 in
    let inside : k < length l.word-items = omega arith in
    let this : Sifts a.boxes.now (k / 256) (get_or marks (k / 16) (pos 0)) (first_of k) (span many (first_of k)) c.word_where.result =
    rw (← c.span_of.ensures) (λ t h begins. let told = c.word_where.ensures.told t h in search rules) in
    written_hold k l.word-items c.word_where.result 0 (λ j w. Sifts a.boxes.now (j / 256) (get_or marks (j / 16) (pos 0)) (first_of j) (span many (first_of j)) w) inside this l.invariant
