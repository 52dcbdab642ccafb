-- `sifting::candidates::put_by_table` meets its contract: the words of the boxes before i are written, and those of the next leave them. Assumes nothing.
use mathlib.Core.Path.{subst, ◌∙◌}
use mathlib.Core.List.{List}
use Prim.Native.Nat.{◌+◌, ◌*◌, ◌/◌, ◌≤◌}
use native.Mathlib.Omega.{arith}
use lib.IntN.{ℤ}
use lib.ListN.{length}
use Rattle.algebra.proofs.Parts.{part, length_lent}
use Rattle.sifting.specs.Tables.{RowsFor}
use Rattle.sifting.proofs.TableLaws.{joined_candidates, candidates_on}
use Rattle.sifting.proofs.candidates.put_by_table.Goals as goal

pub loop-i-preserved : goal.loop-i-preserved
loop-i-preserved c =
    let rows = c.rows_of-rows in
    let l = c.loop-i in
    let a = c.args in
    let served = subst (λ (box : List ℤ). RowsFor c.fill.new.self.marks box rows.result) (part (6 * l.i) 6 a.bounds.now) rows.ensures in
    let room : l.i * 16 + 16 ≤ length l.words = omega arith in
    candidates_on a.bounds.now a.boxes.now (length a.boxes.now / 6) l.i l.words c.put_row.new.words room (c.put_row.auto.words ∙ length_lent (l.i * 16) 16 l.words room) l.invariant
    (λ w h. joined_candidates c.fill.ensures served h (c.put_row.ensures w h))
