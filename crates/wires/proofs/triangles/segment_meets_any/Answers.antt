-- `wires::triangles::segment_meets_any` meets its contract: the number of the ends tells which test decides. Assumes nothing.
use Rattle.std.proofs.Common.{◌/◌, ◌%◌, ◌∙◌}
use lib.Dec.{ltb}
use Rattle.shape.specs.Points.{point_at}
use Rattle.wires.proofs.SegmentEnds.{ends_beside, ends_level, ends_through, from_higher}
use Rattle.wires.proofs.triangles.segment_meets_any.Goals as goal

pub returns-then-ends-eq0 : goal.returns-then-ends-eq0
returns-then-ends-eq0 c =
    let k = c.args.first.now in
    let l = c.args.second.now in
    ends_beside (point_at 3 0 k) (point_at 3 3 k) (point_at 3 0 l) (point_at 3 3 l) (point_at 3 6 l) c.ends_over-ends.ensures.0 c.if-ends-eq0.true

pub returns-then-ends-eq4 : goal.returns-then-ends-eq4
returns-then-ends-eq4 c =
    let k = c.args.first.now in
    let l = c.args.second.now in
    ends_level (point_at 3 0 k) (point_at 3 3 k) (point_at 3 0 l) (point_at 3 3 l) (point_at 3 6 l) c.ends_over-ends.ensures.0 c.if-ends-eq4.true c.level_segment_meets.ensures

pub returns-else-ends-eq4 : goal.returns-else-ends-eq4
returns-else-ends-eq4 c =
    let e = c.ends_over-ends.result in
    let k = c.args.first.now in
    let l = c.args.second.now in
    ends_through (point_at 3 0 k) (point_at 3 3 k) (point_at 3 0 l) (point_at 3 3 l) (point_at 3 6 l) c.ends_over-ends.ensures.0 c.if-ends-eq0.false c.if-ends-eq4.false
    (c.passes.ensures ∙ from_higher k l (ltb (e / 3) (e % 3)))
