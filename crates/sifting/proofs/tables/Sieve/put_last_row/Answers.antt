-- `sifting::tables::Sieve::put_last_row` meets its contract: the words before w are written. Assumes nothing.
use mathlib.Core.Path.{◌≡◌, refl, ◌∙◌}
use native.Mathlib.Omega.{arith}
use borrow.Author.Rules.{rules}
use borrow.Rule.Slice.PartMut.{same_len_mid}
use lib.ListN.{length}
use Rattle.sifting.proofs.TableLaws.{here_put, before_put}
use Rattle.sifting.proofs.tables.Sieve.put_last_row.Goals as goal

pub returns : goal.returns
returns c =
    let words = c.args.self.now.words in
    let new = c.loop-w.word-items in
    let long : length words ≡ 1552 = search rules in
    let as_long : length new ≡ 16 = search rules in (
      refl,
      same_len_mid 1536 16 words new c.loop-w.auto.word-items ∙ long,
      (λ w h. here_put 1536 16 w words new (omega arith) 16 as_long h ∙ c.loop-w.invariant w (omega (arith, c.loop-w-test.false))),
      λ k h. before_put 1536 16 k words new (omega arith) h,
    )
