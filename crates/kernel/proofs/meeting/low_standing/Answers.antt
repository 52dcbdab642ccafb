-- `kernel::meeting::low_standing` meets its contract: low words tell the sides of small numbers. Assumes nothing.
use Rattle.std.proofs.Common.{ap, sym, subst, ◌∙◌, length}
use Rattle.exact.specs.Sizes.{Sized, minor_size}
use Rattle.space.proofs.SpaceLaws.{lists_hold, sized_normal_in}
use Rattle.kernel.proofs.meeting.low_standing.Goals as goal

pub normal_in-requires : goal.normal_in-requires
normal_in-requires c = let p = c.requires in (ap length p.2, subst (Sized minor_size) (sym p.2) (sized_normal_in p.1))

pub low_standing-requires : goal.low_standing-requires
low_standing-requires c =
    let a = c.args in
    let p = c.requires in
    (p.0, p.1, c.normal_in.ensures ∙ p.2, lists_hold a.t.now a.u.now p.3 p.4)
