-- `space::segments::levels_of_ends` meets its contract: two sure estimates tell both levels, and else the normal does. Assumes nothing.
use mathlib.Core.Path.{◌∙◌}
use Prim.Native.Nat.{◌+◌, ◌*◌}
use native.Mathlib.Omega.{arith}
use Rattle.exact.specs.Vectors.{spatial}
use Rattle.exact.proofs.LevelLaws.{estimate_told, level_from_first}
use Rattle.space.proofs.SegmentLaws.{ends_told}
use Rattle.space.proofs.segments.levels_of_ends.Goals as goal

pub returns-then-is_sure : goal.returns-then-is_sure
returns-then-is_sure c =
    let a = c.args in
    let t = a.t in
    ends_told
    (estimate_told t.p.on_grid t.q.on_grid t.r.on_grid a.p.on_grid c.plane_at-plane.ensures c.rough_of-a.ensures c.rough_of.ensures c.estimate_of-x.ensures)
    (estimate_told t.p.on_grid t.q.on_grid t.r.on_grid a.q.on_grid c.plane_at-plane.ensures c.rough_of-a.ensures c.rough_of-2.ensures c.estimate_of-y.ensures)
    c.is_sure.ensures
    c.is_sure-2.ensures
    c.if-is_sure.true
    c.is_above.ensures
    c.is_above-then-is_sure.ensures

pub returns-else-is_sure : goal.returns-else-is_sure
returns-else-is_sure c =
    let a = c.args in
    let at_p = c.level_over.ensures in
    let at_q = c.level_over-else-is_sure.ensures in
    let is = c.normal_of-n.ensures.is in
    let i = at_p.0 ∙ level_from_first (spatial a.t.p) (spatial a.t.q) (spatial a.t.r) (spatial a.p) is in
    let j = at_q.0 ∙ level_from_first (spatial a.t.p) (spatial a.t.q) (spatial a.t.r) (spatial a.q) is in
    (λ k. 3 * i k + j k, omega (arith, at_p.1, at_q.1))
