-- `packing::reading::numbers_at` meets its contract: the first k numbers are read, and the others are still the old ones. Assumes nothing.
use mathlib.Core.Path.{sym, ap, ◌∙◌}
use Prim.Native.Nat.{◌*◌, ◌≤◌}
use native.Mathlib.Numerals.{add-one}
use native.Mathlib.Omega.{arith}
use lib.IntN.{pos}
use lib.ListN.{length, set, drop}
use lib.Seq.{drop-drop}
use mir.Syntax.{w32}
use Rattle.algebra.proofs.Copying.{over, over_more, over_all}
use Rattle.algebra.proofs.Machine.{returned}
use Rattle.packing.specs.Reading.{number_in, numbers_in}
use Rattle.packing.proofs.ByteLaws.{length_numbers, number_in_law}
use Rattle.packing.proofs.reading.numbers_at.Goals as goal

pub loop-k-preserved : goal.loop-k-preserved
loop-k-preserved c =
    let l = c.loop-k in
    let a = c.args in
    let many = length a.numbers.now in
    let bytes = drop a.at a.bytes.now in
    let got = returned w32 c.number_at.type_inv c.number_at.ensures
    ∙ ap number_in (sym (drop-drop (4 * l.k) a.at a.bytes.now)) ∙ sym (number_in_law many l.k bytes (omega arith)) in
    (λ i. set (l.invariant i) l.k (got i))
    ∙ over_more a.numbers.now (numbers_in many bytes) l.k (pos 0) (omega arith) (omega (arith, length_numbers many bytes))
    ∙ ap (over a.numbers.now (numbers_in many bytes)) (sym (add-one l.k))

pub returns : goal.returns
returns c =
    let l = c.loop-k in
    let a = c.args in
    let many = length a.numbers.now in
    let bytes = drop a.at a.bytes.now in
    let end : many ≤ l.k = omega arith in
    l.invariant ∙ over_all a.numbers.now (numbers_in many bytes) l.k end (omega (arith, end, length_numbers many bytes))
