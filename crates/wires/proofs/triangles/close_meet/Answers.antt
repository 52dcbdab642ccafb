-- `wires::triangles::close_meet` meets its contract: the normals tell which triangles are flat. Assumes nothing.
use Rattle.std.proofs.Common.{◌∙◌}
use Rattle.shape.specs.SpaceTest.{in_plane_test}
use Rattle.exact.proofs.Branches.{if_taken, if_left}
use Rattle.space.proofs.SpaceLaws.{spaces_at}
use Rattle.wires.proofs.WireLaws.{flat_read}
use Rattle.wires.proofs.triangles.close_meet.Goals as goal

pub returns-then-is_null : goal.returns-then-is_null
returns-then-is_null c =
    if_taken _ _ (flat_read c.space_triangle-a.ensures c.normal_of.ensures c.is_null.ensures) c.if-is_null.true c.edge_meets.ensures

pub returns-then-is_null-2 : goal.returns-then-is_null-2
returns-then-is_null-2 c =
    if_left _ _ (flat_read c.space_triangle-a.ensures c.normal_of.ensures c.is_null.ensures) c.if-is_null.false
    (if_taken _ _ (flat_read c.space_triangle-b.ensures c.normal_of-n.ensures c.is_null-else-is_null.ensures) c.if-is_null-2.true c.edge_meets-then-is_null-2.ensures)

pub returns-else-is_null-2 : goal.returns-else-is_null-2
returns-else-is_null-2 c =
    let at_t = c.space_triangle-a.ensures in
    let at_u = c.space_triangle-b.ensures in
    if_left _ _ (flat_read at_t c.normal_of.ensures c.is_null.ensures) c.if-is_null.false
    (if_left _ _ (flat_read at_u c.normal_of-n.ensures c.is_null-else-is_null.ensures) c.if-is_null-2.false (c.meet_in_plane.ensures ∙ spaces_at at_t at_u in_plane_test))
