-- `kernel::meeting::standing_to` meets its contract: the normal and the plane are those of the list. Assumes nothing.
use Rattle.std.proofs.Common.{subst, ◌∙◌}
use Rattle.shape.specs.Normals.{normal_of}
use Rattle.exact.specs.Sizes.{Sized, narrow_size}
use Rattle.space.proofs.SpaceLaws.{space_at, normal_holds}
use Rattle.kernel.proofs.meeting.standing_to.Goals as goal

pub low_standing-requires : goal.low_standing-requires
low_standing-requires c =
    let p = c.requires in
    let is = c.normal_of-n.ensures.is ∙ space_at c.space_triangle-corners.ensures normal_of in
    (p.0, p.1, is, normal_holds p.0 p.1 (subst (Sized narrow_size) (c.vector.ensures ∙ is) (c.is_narrow.ensures.yes c.if-is_narrow.true)))
