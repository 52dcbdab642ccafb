-- `sifting::rows::Sieve::rows_of` meets its contract: a row is sought for each end. Assumes nothing.
use mathlib.Core.Path.{subst}
use native.Mathlib.Omega.{arith}
use lib.IntN.{ℤ}
use mir.Syntax.{w32}
use Rattle.algebra.proofs.Copying.{written_hold}
use Rattle.algebra.proofs.Machine.{returned}
use Rattle.sifting.specs.Ends.{reach_of}
use Rattle.sifting.specs.Tables.{RowFor}
use Rattle.sifting.proofs.tables.Sieve.rows_of.Goals as goal

pub loop-e-preserved : goal.loop-e-preserved
loop-e-preserved c =
    let l = c.loop-e in
    let a = c.args in
    let reach = c.reach_at in
    let this : RowFor a.self.now.marks l.e (reach_of l.e a.bounds.now) c.row_of.result =
    subst (λ (z : ℤ). RowFor a.self.now.marks l.e z c.row_of.result) (returned w32 reach.type_inv reach.ensures) c.row_of.ensures in
    written_hold l.e l.row-items c.row_of.result 0 (λ d row. RowFor a.self.now.marks d (reach_of d a.bounds.now) row) (omega arith) this l.invariant
