-- `sifting::ends::end_at` meets its contract: a number of the box as it stands, or mirrored. Assumes nothing.
use borrow.Author.Rules.{rules}
use Rattle.sifting.proofs.EndLaws.{of_six}
use Rattle.sifting.proofs.ends.end_at.Goals as goal

pub returns-else-e-lt3 : goal.returns-else-e-lt3
returns-else-e-lt3 c = rw (of_six c.args.j c.args.e c.args.boxes.now c.requires.0) (search rules)
