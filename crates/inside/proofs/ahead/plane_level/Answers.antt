-- `inside::ahead::plane_level` meets its contract: the first of its three levels that isn't the middle one. Assumes nothing.
use Rattle.std.proofs.Common.{ℕ, ◌+◌, ap, ◌∙◌, ℤ, pos, ◌-ℤ◌, arith, w64}
use Rattle.algebra.proofs.Machine.{Reads, exact, held, in_range, difference}
use Rattle.shape.specs.Points.{Point, coord}
use Rattle.shape.specs.Signs.{side, sign, digit}
use Rattle.shape.specs.Normals.{normal_of}
use Rattle.exact.specs.Sizes.{Sized, minor_size}
use Rattle.exact.specs.Vectors.{spatial}
use Rattle.exact.proofs.Readings.{kept, coordinate}
use Rattle.inside.proofs.Levels.{three_told, three_passed}
use Rattle.inside.proofs.ahead.plane_level.Goals as goal

-- The opposite of a coordinate of the normal.

opposite : {n : Point} → Sized minor_size n → (i : ℕ) → Reads (pos 0 -ℤ kept (coord i n)) (pos 0 -ℤ coord i n) (0 + minor_size)
opposite s i = let zero : Reads (pos 0) (pos 0) 0 = exact (record { abs = omega arith }) in difference zero (coordinate tt s i)

pub returns-then-side-ne1 : goal.returns-then-side-ne1
returns-then-side-ne1 c =
    let t = c.args.t in
    three_told (side (spatial t.p) (spatial t.q) (spatial t.r) (spatial c.args.p))
    (pos 0 -ℤ coord 1 (normal_of (spatial t.p) (spatial t.q) (spatial t.r))) (pos 0 -ℤ coord 2 (normal_of (spatial t.p) (spatial t.q) (spatial t.r)))
    c.level_at-side.ensures.0
    c.if-side-ne1.true

pub overflow_sub-n : goal.overflow_sub-n
overflow_sub-n c = in_range (opposite c.normal_at-n.result.of_grid 1) tt

pub overflow_sub-n-else-side-ne1 : goal.overflow_sub-n-else-side-ne1
overflow_sub-n-else-side-ne1 c = in_range (opposite c.normal_at-n.result.of_grid 2) tt

pub returns-else-side-ne1 : goal.returns-else-side-ne1
returns-else-side-ne1 c =
    let t = c.args.t in
    let n = c.normal_at-n in
    three_passed (side (spatial t.p) (spatial t.q) (spatial t.r) (spatial c.args.p))
    (pos 0 -ℤ coord 1 (normal_of (spatial t.p) (spatial t.q) (spatial t.r))) (pos 0 -ℤ coord 2 (normal_of (spatial t.p) (spatial t.q) (spatial t.r)))
    c.level_at-side.ensures.0
    c.if-side-ne1.false
    c.first_of.ensures
    (c.level_of.ensures.0 ∙ ap (λ (z : ℤ). digit (sign z)) (held w64 (opposite n.result.of_grid 1) tt).is ∙ ap (λ (n : Point). digit (sign (pos 0 -ℤ coord 1 n))) n.ensures)
    (c.level_of-else-side-ne1.ensures.0 ∙ ap (λ (z : ℤ). digit (sign z)) (held w64 (opposite n.result.of_grid 2) tt).is ∙ ap (λ (n : Point). digit (sign (pos 0 -ℤ coord 2 n))) n.ensures)
