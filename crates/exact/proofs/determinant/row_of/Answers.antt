-- `exact::determinant::row_of` meets its contract: no difference overflows, and they are those of the row.
-- Assumes nothing.
use Rattle.algebra.proofs.Machine.{in_range}
use Rattle.exact.proofs.Readings.{gap, row_read}
use Rattle.exact.proofs.determinant.row_of.Goals as goal

pub overflow_sub-result : goal.overflow_sub-result
overflow_sub-result c =
    let a = c.args.a.on_grid in
    let d = c.args.d.on_grid in
    in_range (gap a d 0) tt

pub overflow_sub-result-2 : goal.overflow_sub-result-2
overflow_sub-result-2 c =
    let a = c.args.a.on_grid in
    let d = c.args.d.on_grid in
    in_range (gap a d 1) tt

pub overflow_sub-result-3 : goal.overflow_sub-result-3
overflow_sub-result-3 c =
    let a = c.args.a.on_grid in
    let d = c.args.d.on_grid in
    in_range (gap a d 2) tt

pub invariant_of-result : goal.invariant_of-result
invariant_of-result c = record { of_grid = (row_read c.args.a.on_grid c.args.d.on_grid).1 }

pub returns : goal.returns
returns c = (row_read c.args.a.on_grid c.args.d.on_grid).0
