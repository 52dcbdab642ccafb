-- `kernel::meeting::triangles_meet` meets its contract: by both standings. Assumes nothing.
use Rattle.std.proofs.Common.{Bool, not, ap, sym, subst, eq-eqb}
use Rattle.kernel.specs.Meeting.{Judges}
use Rattle.kernel.proofs.Stages.{judged_other_way, judged_beside}
use Rattle.kernel.proofs.meeting.triangles_meet.Goals as goal

pub returns-then-s-eq0 : goal.returns-then-s-eq0
returns-then-s-eq0 c =
    let a = c.args in
    judged_beside a.first.now a.second.now c.standing_to-s.ensures c.if-s-eq0.true

pub returns-else-r-ne0 : goal.returns-else-r-ne0
returns-else-r-ne0 c =
    let a = c.args in
    let none = c.if-r-ne0.false in
    subst (λ (v : Bool). Judges 3 3 3 a.first.now a.second.now v) (sym (ap not (eq-eqb c.standing_to-r.result 0 none)))
    (judged_other_way a.first.now a.second.now (judged_beside a.second.now a.first.now c.standing_to-r.ensures none))
