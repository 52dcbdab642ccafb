-- `kernel::meeting::segment_meets_triangle` meets its contract: the test is right on all segments and triangles. Assumes nothing.
use Rattle.kernel.proofs.Judging.{segment_judged}
use Rattle.kernel.proofs.meeting.segment_meets_triangle.Goals as goal

pub returns : goal.returns
returns c =
    let a = c.args in
    segment_judged a.first.now a.second.now c.segment_meets_any.ensures
