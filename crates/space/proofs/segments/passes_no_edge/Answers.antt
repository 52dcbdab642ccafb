-- `space::segments::passes_no_edge` meets its contract: three sure estimates tell the edges, and else three levels over two planes do. Assumes nothing.
use mathlib.Core.Path.{◌∙◌}
use Rattle.exact.specs.Vectors.{spatial}
use Rattle.exact.proofs.LevelLaws.{estimate_told, level_from_first}
use Rattle.space.proofs.SegmentLaws.{past_told, past_by_levels}
use Rattle.space.proofs.segments.passes_no_edge.Goals as goal

pub returns-then-is_sure : goal.returns-then-is_sure
returns-then-is_sure c =
    let p = c.args.p.on_grid in
    let q = c.args.q.on_grid in
    let t = c.args.t in
    past_told
    (estimate_told p q t.p.on_grid t.q.on_grid c.plane_at-f.ensures c.rough_of-a.ensures c.rough_of.ensures c.estimate_of-x.ensures)
    (estimate_told p q t.p.on_grid t.r.on_grid c.plane_at-f.ensures c.rough_of-a.ensures c.rough_of-2.ensures c.estimate_of-y.ensures)
    (estimate_told p q t.q.on_grid t.r.on_grid c.plane_at-g.ensures c.rough_of-a.ensures c.rough_of-3.ensures c.estimate_of-z.ensures)
    c.is_sure.ensures
    c.is_sure-2.ensures
    c.is_sure-3.ensures
    c.if-is_sure.true
    c.is_below.ensures
    c.is_above.ensures
    c.is_below-then-is_sure.ensures

pub returns-else-is_sure : goal.returns-else-is_sure
returns-else-is_sure c =
    let a = c.args in
    let p = spatial a.p in
    let q = spatial a.q in
    let t = a.t in
    let m_is = c.normal_at-m.ensures in
    past_by_levels p q (spatial t.p) (spatial t.q) (spatial t.r)
    (c.level_over-i.ensures.0 ∙ level_from_first p q (spatial t.p) (spatial t.q) m_is)
    (c.level_over-j.ensures.0 ∙ level_from_first p q (spatial t.p) (spatial t.r) m_is)
    (c.level_over-k.ensures.0 ∙ level_from_first p q (spatial t.q) (spatial t.r) c.normal_at-n.ensures)
