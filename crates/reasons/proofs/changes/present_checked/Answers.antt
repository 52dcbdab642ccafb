-- `reasons::changes::present_checked` meets its contract: the marks tell which parts are present. Assumes nothing.
use Rattle.std.proofs.Common.{◌≡◌, true, false, sym, ◌∙◌}
use Rattle.shape.specs.Lists.{some}
use Rattle.slots.specs.Slots.{is_of}
use Rattle.reasons.proofs.Finding.{present}
use Rattle.reasons.proofs.changes.present_checked.Goals as goal

pub returns-then-not-has_mark : goal.returns-then-not-has_mark
returns-then-not-has_mark c = λ S e.
    let q = c.args.part in
    let absent : some (is_of q) S ≡ false = sym (present S q c.mark_for.ensures e) ∙ sym c.has_mark.ensures ∙ c.if-not-has_mark.true in
    rw absent c.new.ensures

pub returns : goal.returns
returns c = λ S e.
    let q = c.args.part in
    let there : some (is_of q) S ≡ true = sym (present S q c.mark_for.ensures e) ∙ sym c.has_mark.ensures ∙ c.if-not-has_mark.false in
    rw there
