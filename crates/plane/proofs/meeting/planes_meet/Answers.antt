-- `plane::meeting::planes_meet` meets its contract: both triangles are put in left-turn order and the second is sorted, as the decision
-- does it. Assumes nothing.
use Rattle.std.proofs.Common.{◌∙◌}
use Rattle.plane.proofs.PlaneLaws.{triangles_told}
use Rattle.plane.proofs.meeting.planes_meet.Goals as goal

pub returns-in-Inside : goal.returns-in-Inside
returns-in-Inside c = triangles_told c.args.t c.args.u c.left_order-first.ensures c.left_order.ensures c.in-Inside.ensures

pub returns-in-PastOne : goal.returns-in-PastOne
returns-in-PastOne c = c.past_one.ensures ∙ triangles_told c.args.t c.args.u c.left_order-first.ensures c.left_order.ensures c.in-PastOne.ensures

pub returns-in-PastTwo : goal.returns-in-PastTwo
returns-in-PastTwo c = c.past_two.ensures ∙ triangles_told c.args.t c.args.u c.left_order-first.ensures c.left_order.ensures c.in-PastTwo.ensures
