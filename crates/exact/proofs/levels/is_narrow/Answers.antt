-- `exact::levels::is_narrow` meets its contract: all three components are asked. Assumes nothing.
use Rattle.std.proofs.Common.{rules}
use Rattle.exact.proofs.Holding.{says_read, says_sized}
use Rattle.exact.proofs.levels.is_narrow.Goals as goal

pub returns : goal.returns
returns c =
    let n = c.args.n in
    says_sized
    (says_read n.x (search rules) c.is_small.ensures)
    (says_read n.y (search rules) c.is_small-2.ensures)
    (says_read n.z (search rules) c.is_small-3.ensures)
