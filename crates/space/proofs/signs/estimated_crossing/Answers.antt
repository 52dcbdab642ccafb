-- `space::signs::estimated_crossing` meets its contract: the last signs of both triangles in their new orders. Assumes nothing.
use mathlib.Core.Path.{subst}
use mathlib.Core.Bool.{Bool}
use Rattle.space.specs.Spaces.{Crosses}
use Rattle.space.proofs.SpaceLaws.{last_in_order}
use Rattle.space.proofs.signs.estimated_crossing.Goals as goal

pub returns : goal.returns
returns c =
    subst (λ (v : Bool). Crosses v c.estimated_signs.result)
    (last_in_order c.args.s c.args.r c.args.t.now c.args.u.now c.in_order.ensures c.in_order-2.ensures c.requires.2 c.requires.3)
    c.estimated_signs.ensures
