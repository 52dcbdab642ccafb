-- `kernel::meeting::put_plane` meets its contract: the three numbers are stored one by one. Assumes nothing.
use Rattle.std.proofs.Common.{[], ◌∷◌, ap, ◌∙◌}
use Rattle.estimates.specs.Doubles.{plane_of, rough}
use Rattle.estimates.specs.declared.Plane.{Plane}
use Rattle.exact.proofs.Readings.{all_stored}
use Rattle.space.proofs.SpaceLaws.{space_at}
use Rattle.kernel.proofs.meeting.put_plane.Goals as goal

pub returns : goal.returns
returns c =
    all_stored (_ ∷ _ ∷ _ ∷ []) c.args.plane.now c.requires.0
    ∙ ap (λ (n : Plane). n.x ∷ n.y ∷ n.z ∷ []) (c.plane_at-p.ensures ∙ space_at c.space_triangle-t.ensures (λ a b c. plane_of (rough a) (rough b) (rough c)))
