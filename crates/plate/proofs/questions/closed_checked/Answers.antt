-- `plate::questions::closed_checked` meets its contract: the triangles are those of the part. Assumes nothing.
use Rattle.plate.proofs.PartsLaws.{shell_found}
use Rattle.plate.proofs.questions.closed_checked.Goals as goal

pub returns-then-is_open : goal.returns-then-is_open
returns-then-is_open c = λ S e. shell_found _ S _ e c.is_open.ensures (rw c.if-is_open.true c.new.ensures)

pub returns : goal.returns
returns c = λ S e. shell_found c.args.side S c.args.part e c.is_open.ensures (rw c.if-is_open.false)
