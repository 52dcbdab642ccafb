-- `exact::determinant::minors_of` meets its contract: no step overflows, and the result has the three minors.
-- Assumes nothing.
use Rattle.algebra.proofs.Machine.{in_range}
use Rattle.exact.proofs.Readings.{times, minor_read, minors_read}
use Rattle.exact.proofs.determinant.minors_of.Goals as goal

pub overflow_mul-result : goal.overflow_mul-result
overflow_mul-result c =
    let v = c.args.v.of_grid in
    let w = c.args.w.of_grid in
    in_range (times tt tt v w 1 2) tt

pub overflow_mul-result-2 : goal.overflow_mul-result-2
overflow_mul-result-2 c =
    let v = c.args.v.of_grid in
    let w = c.args.w.of_grid in
    in_range (times tt tt v w 2 1) tt

pub overflow_sub-result : goal.overflow_sub-result
overflow_sub-result c =
    let v = c.args.v.of_grid in
    let w = c.args.w.of_grid in
    in_range (minor_read v w 1 2 (c.requires.each 0)) tt

pub overflow_mul-result-3 : goal.overflow_mul-result-3
overflow_mul-result-3 c =
    let v = c.args.v.of_grid in
    let w = c.args.w.of_grid in
    in_range (times tt tt v w 2 0) tt

pub overflow_mul-result-4 : goal.overflow_mul-result-4
overflow_mul-result-4 c =
    let v = c.args.v.of_grid in
    let w = c.args.w.of_grid in
    in_range (times tt tt v w 0 2) tt

pub overflow_sub-result-2 : goal.overflow_sub-result-2
overflow_sub-result-2 c =
    let v = c.args.v.of_grid in
    let w = c.args.w.of_grid in
    in_range (minor_read v w 2 0 (c.requires.each 1)) tt

pub overflow_mul-result-5 : goal.overflow_mul-result-5
overflow_mul-result-5 c =
    let v = c.args.v.of_grid in
    let w = c.args.w.of_grid in
    in_range (times tt tt v w 0 1) tt

pub overflow_mul-result-6 : goal.overflow_mul-result-6
overflow_mul-result-6 c =
    let v = c.args.v.of_grid in
    let w = c.args.w.of_grid in
    in_range (times tt tt v w 1 0) tt

pub overflow_sub-result-3 : goal.overflow_sub-result-3
overflow_sub-result-3 c =
    let v = c.args.v.of_grid in
    let w = c.args.w.of_grid in
    in_range (minor_read v w 0 1 (c.requires.each 2)) tt

pub invariant_of-result : goal.invariant_of-result
invariant_of-result c = record { of_grid = (minors_read c.args.v.of_grid c.args.w.of_grid c.requires).1 }

pub returns : goal.returns
returns c = (minors_read c.args.v.of_grid c.args.w.of_grid c.requires).0
