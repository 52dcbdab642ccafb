-- `space::signs::crossing` meets its contract: the last signs of both triangles in their new orders. Assumes nothing.
use mathlib.Core.Path.{◌∙◌}
use Rattle.space.proofs.SpaceLaws.{last_in_order}
use Rattle.space.proofs.signs.crossing.Goals as goal

pub returns : goal.returns
returns c =
    let s = c.args.s in
    let r = c.args.r in
    let second = c.in_order-2 in
    c.last_signs.ensures ∙ last_in_order s r c.args.t.now c.args.u.now c.in_order.ensures second.ensures c.requires.2 c.requires.3
