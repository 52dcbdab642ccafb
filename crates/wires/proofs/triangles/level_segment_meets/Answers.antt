-- `wires::triangles::level_segment_meets` meets its contract: the normal tells whether the triangle is flat. Assumes nothing.
use Rattle.exact.proofs.Branches.{if_taken, if_left}
use Rattle.wires.proofs.WireLaws.{flat_read}
use Rattle.wires.proofs.triangles.level_segment_meets.Goals as goal

pub returns-then-is_null : goal.returns-then-is_null
returns-then-is_null c =
    if_taken _ _ (flat_read c.space_triangle.ensures c.normal_of-n.ensures c.is_null.ensures) c.if-is_null.true c.edge_meets_segment.ensures

pub returns-else-is_null : goal.returns-else-is_null
returns-else-is_null c =
    if_left _ _ (flat_read c.space_triangle.ensures c.normal_of-n.ensures c.is_null.ensures) c.if-is_null.false c.segment_meets_in_plane.ensures
