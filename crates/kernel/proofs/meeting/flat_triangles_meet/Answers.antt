-- `kernel::meeting::flat_triangles_meet` meets its contract: the test is right on shapes that are not flat. Assumes nothing.
use Rattle.std.proofs.Common.{Bool, sym, subst, ◌∙◌}
use Rattle.shape.specs.PlaneTest.{triangle_test}
use Rattle.shape.proofs.PlaneTest.{triangle_test_law}
use Rattle.kernel.specs.Meeting.{Judges}
use Rattle.kernel.proofs.meeting.flat_triangles_meet.Goals as goal

pub returns : goal.returns
returns c =
    let t = c.plane_triangle.ensures in
    let u = c.plane_triangle-2.ensures in
    subst (λ (v : Bool). Judges 2 3 3 c.args.first.now c.args.second.now v)
    (sym (c.planes_meet.ensures ∙ (λ i. triangle_test (t.at_p i) (t.at_q i) (t.at_r i) (u.at_p i) (u.at_q i) (u.at_r i))))
    (triangle_test_law _ _ _ _ _ _ c.requires.0.never_flat c.requires.1.never_flat)
