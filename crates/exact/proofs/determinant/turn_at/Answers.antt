-- `exact::determinant::turn_at` meets its contract: no step overflows, and the result is the turn.
-- Assumes nothing.
use Rattle.std.proofs.Common.{w64}
use Rattle.algebra.proofs.Machine.{in_range, held, product}
use Rattle.exact.proofs.Readings.{gap, stored_gap_law, turn_read}
use Rattle.exact.proofs.determinant.turn_at.Goals as goal

pub overflow_sub-result : goal.overflow_sub-result
overflow_sub-result c =
    let a = c.args.a.on_grid in
    let b = c.args.b.on_grid in
    let d = c.args.c.on_grid in
    in_range (gap a d 0) tt

pub overflow_sub-result-2 : goal.overflow_sub-result-2
overflow_sub-result-2 c =
    let a = c.args.a.on_grid in
    let b = c.args.b.on_grid in
    let d = c.args.c.on_grid in
    in_range (gap b d 1) tt

pub overflow_mul-result : goal.overflow_mul-result
overflow_mul-result c =
    let a = c.args.a.on_grid in
    let b = c.args.b.on_grid in
    let d = c.args.c.on_grid in
    in_range (product (stored_gap_law a d 0) (stored_gap_law b d 1)) tt

pub overflow_sub-result-3 : goal.overflow_sub-result-3
overflow_sub-result-3 c =
    let a = c.args.a.on_grid in
    let b = c.args.b.on_grid in
    let d = c.args.c.on_grid in
    in_range (gap a d 1) tt

pub overflow_sub-result-4 : goal.overflow_sub-result-4
overflow_sub-result-4 c =
    let a = c.args.a.on_grid in
    let b = c.args.b.on_grid in
    let d = c.args.c.on_grid in
    in_range (gap b d 0) tt

pub overflow_mul-result-2 : goal.overflow_mul-result-2
overflow_mul-result-2 c =
    let a = c.args.a.on_grid in
    let b = c.args.b.on_grid in
    let d = c.args.c.on_grid in
    in_range (product (stored_gap_law a d 1) (stored_gap_law b d 0)) tt

pub overflow_sub-result-5 : goal.overflow_sub-result-5
overflow_sub-result-5 c =
    let a = c.args.a.on_grid in
    let b = c.args.b.on_grid in
    let d = c.args.c.on_grid in
    in_range (turn_read a b d) tt

pub returns : goal.returns
returns c =
    let a = c.args.a.on_grid in
    let b = c.args.b.on_grid in
    let d = c.args.c.on_grid in
    (held w64 (turn_read a b d) tt).is
