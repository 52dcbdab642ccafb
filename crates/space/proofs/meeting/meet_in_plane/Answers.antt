-- `space::meeting::meet_in_plane` meets its contract: the flat test without the coordinate that the second triangle's normal tells.
-- Assumes nothing.
use Rattle.std.specs.Prelude.{Option, unwrap_or}
use Rattle.shape.specs.Normals.{axis_of}
use Rattle.exact.specs.Vectors.{components}
use mathlib.Core.Path.{refl, ap, ◌∙◌}
use Prim.Native.Nat.{ℕ}
use Rattle.shape.specs.PlaneTest.{triangle_test}
use Rattle.shape.specs.SpaceTest.{in_plane_without}
use Rattle.space.specs.Spaces.{of_spaces}
use Rattle.space.proofs.SpaceLaws.{any_axis, axis_by_normal}
use Rattle.space.proofs.meeting.meet_in_plane.Goals as goal

pub returns : goal.returns
returns c =
    let t = c.dropped.ensures in
    let u = c.dropped-2.ensures in
    c.planes_meet.ensures
    ∙ (λ i. triangle_test (t.at_p i) (t.at_q i) (t.at_r i) (u.at_p i) (u.at_q i) (u.at_r i))
    ∙ ap (λ (k : ℕ). of_spaces (in_plane_without k) c.args.t c.args.u) (c.unwrap_or-k.ensures ∙ ap (λ (o : Option ℕ). unwrap_or o 2) c.axis_of.ensures)
    ∙ any_axis (λ (k : ℕ). of_spaces (in_plane_without k) c.args.t c.args.u) refl (axis_of (components c.args.n))
    ∙ ap (λ (k : ℕ). of_spaces (in_plane_without k) c.args.t c.args.u) (axis_by_normal c.args.u c.requires refl)
