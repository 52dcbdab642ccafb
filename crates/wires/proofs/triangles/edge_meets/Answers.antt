-- `wires::triangles::edge_meets` meets its contract: edge by edge. Assumes nothing.
use Rattle.std.proofs.Common.{◌∙◌, arith}
use Rattle.shape.specs.WireTest.{segment_triangle_test}
use Rattle.exact.proofs.Branches.{if_taken, if_left}
use Rattle.wires.proofs.SegmentEnds.{edge_ready, edge_of}
use Rattle.wires.proofs.triangles.edge_meets.Goals as goal

pub segment_meets_any-requires : goal.segment_meets_any-requires
segment_meets_any-requires c =
    (edge_ready 0 c.args.t.now (omega arith) c.requires.0, c.requires.1)

pub returns-then-segment_meets_any : goal.returns-then-segment_meets_any
returns-then-segment_meets_any c =
    let a = c.args in
    if_taken _ _ (c.segment_meets_any.ensures ∙ edge_of 0 a.t.now a.u.now segment_triangle_test) c.if-segment_meets_any.true c.if-segment_meets_any.true

pub segment_meets_any-requires-else-segment_meets_any : goal.segment_meets_any-requires-else-segment_meets_any
segment_meets_any-requires-else-segment_meets_any c =
    (edge_ready 3 c.args.t.now (omega arith) c.requires.0, c.requires.1)

pub returns-else-segment_meets_any : goal.returns-else-segment_meets_any
returns-else-segment_meets_any c =
    let a = c.args in
    if_left _ _ (c.segment_meets_any.ensures ∙ edge_of 0 a.t.now a.u.now segment_triangle_test) c.if-segment_meets_any.false
    (c.segment_meets_any-else-segment_meets_any.ensures ∙ edge_of 3 a.t.now a.u.now segment_triangle_test)
