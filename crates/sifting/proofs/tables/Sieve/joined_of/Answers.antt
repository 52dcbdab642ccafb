-- `sifting::rows::Sieve::joined_of` meets its contract: a bit that the last row and the rows so far have is set. Assumes nothing.
use Prim.Native.Nat.{◌+◌, ◌*◌}
use native.Mathlib.Omega.{arith}
use lib.Bits.{and_le_l}
use lib.ListN.{get_or}
use Rattle.sifting.proofs.TableLaws.{both_set}
use Rattle.sifting.proofs.tables.Sieve.joined_of.Goals as goal

pub loop-row-preserved : goal.loop-row-preserved
loop-row-preserved c =
    let l = c.loop-row in
    let a = c.args in
    let next = get_or a.self.now.words (16 * get_or a.rows l.row-index 0 + a.w) 0 in
    (omega (arith, and_le_l l.some next, l.invariant.0), λ t last each. both_set t l.some next (l.invariant.1 t last (λ d h. each d (omega arith))) (each l.row-index (omega arith)))
