-- `plane::meeting::segment_meets_plane` meets its contract: the triangle is put in left-turn order and sorted, as the decision does it.
-- Assumes nothing.
use Rattle.std.proofs.Common.{◌∙◌}
use Rattle.exact.specs.Vectors.{planar}
use Rattle.plane.proofs.PlaneLaws.{segment_told}
use Rattle.plane.proofs.meeting.segment_meets_plane.Goals as goal

pub returns-in-Inside : goal.returns-in-Inside
returns-in-Inside c = segment_told (planar c.args.p) (planar c.args.q) c.args.t c.left_order.ensures c.in-Inside.ensures

pub returns-in-PastOne : goal.returns-in-PastOne
returns-in-PastOne c = c.segment_past_one.ensures ∙ segment_told (planar c.args.p) (planar c.args.q) c.args.t c.left_order.ensures c.in-PastOne.ensures

pub returns-in-PastTwo : goal.returns-in-PastTwo
returns-in-PastTwo c = c.segment_past_two.ensures ∙ segment_told (planar c.args.p) (planar c.args.q) c.args.t c.left_order.ensures c.in-PastTwo.ensures
