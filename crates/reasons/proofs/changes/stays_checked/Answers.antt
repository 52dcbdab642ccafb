-- `reasons::changes::stays_checked` meets its contract: the slots are 64. Assumes nothing.
use borrow.Author.Tests.{lt-ltb}
use Rattle.reasons.proofs.changes.stays_checked.Goals as goal

pub returns-in-Some : goal.returns-in-Some
returns-in-Some c = λ S h.
    let found = c.in-Some.ensures S c.args.part h c.mark_for.ensures in
    rw (found.1, h.fit.long, lt-ltb c.in-Some.slot 64 found.0) c.new.ensures

pub returns-in-None : goal.returns-in-None
returns-in-None c = λ S h.
    let found = c.in-None.ensures S c.args.part h c.mark_for.ensures in
    rw (found, h.fit.long)
