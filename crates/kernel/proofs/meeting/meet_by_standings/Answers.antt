-- `kernel::meeting::meet_by_standings` meets its contract: by the standing of u, and where one of its corners is alone by that of t. Assumes nothing.
use Rattle.kernel.proofs.Stages.{judged_other_way, judged_within, judged_crossing}
use Rattle.kernel.proofs.meeting.meet_by_standings.Goals as goal

pub returns-then-r-eq1 : goal.returns-then-r-eq1
returns-then-r-eq1 c =
    let a = c.args in
    let stood = c.requires.3 in
    judged_other_way a.t.now a.u.now (judged_within a.u.now a.t.now stood.second c.if-r-eq1.true c.close_meet.ensures)

pub returns-then-s-eq1 : goal.returns-then-s-eq1
returns-then-s-eq1 c =
    let a = c.args in
    let stood = c.requires.3 in
    judged_within a.t.now a.u.now (stood.first c.if-r-eq1.false) c.if-s-eq1.true c.close_meet-then-s-eq1.ensures

pub returns-else-s-eq1 : goal.returns-else-s-eq1
returns-else-s-eq1 c =
    let a = c.args in
    let stood = c.requires.3 in
    let r1 = c.if-r-eq1.false in
    judged_crossing a.t.now a.u.now (stood.first r1) stood.second (stood.near_second r1) c.if-s-eq1.false stood.near_first r1 c.crossing.ensures
