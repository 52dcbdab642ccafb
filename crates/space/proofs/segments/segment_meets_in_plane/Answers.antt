-- `space::segments::segment_meets_in_plane` meets its contract: the flat test without the coordinate that the triangle's normal tells. Assumes nothing.
use Rattle.std.specs.Prelude.{Option, unwrap_or}
use Rattle.shape.specs.Normals.{axis_of}
use Rattle.exact.specs.Vectors.{components}
use mathlib.Core.Path.{refl, ap, ◌∙◌}
use Prim.Native.Nat.{ℕ}
use Rattle.shape.specs.PlaneTest.{segment_test}
use Rattle.shape.specs.SpaceTest.{segment_in_plane_without}
use Rattle.space.specs.Spaces.{of_segment}
use Rattle.space.proofs.SpaceLaws.{any_axis}
use Rattle.space.proofs.SegmentLaws.{segment_at}
use Rattle.space.proofs.segments.segment_meets_in_plane.Goals as goal

pub returns : goal.returns
returns c =
    let seen-t = c.dropped.ensures in
    let x = c.without_coordinate.ensures in
    let y = c.without_coordinate-2.ensures in
    c.segment_meets_plane.ensures
    ∙ (λ i. segment_test (x i) (y i) (seen-t.at_p i) (seen-t.at_q i) (seen-t.at_r i))
    ∙ segment_at c.space_point.ensures c.space_point-2.ensures c.space_triangle.ensures (segment_in_plane_without c.unwrap_or-k.result)
    ∙ ap (λ (k : ℕ). of_segment (segment_in_plane_without k) c.args.first.now c.args.second.now) (c.unwrap_or-k.ensures ∙ ap (λ (o : Option ℕ). unwrap_or o 2) c.axis_of.ensures)
    ∙ any_axis (λ (k : ℕ). of_segment (segment_in_plane_without k) c.args.first.now c.args.second.now) refl (axis_of (components c.args.n))
    ∙ ap (λ (k : ℕ). of_segment (segment_in_plane_without k) c.args.first.now c.args.second.now) (ap axis_of c.requires.2)
