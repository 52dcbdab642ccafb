-- `kernel::meeting::put_normal` meets its contract: the three numbers are stored one by one. Assumes nothing.
use Rattle.std.proofs.Common.{[], ◌∷◌, ◌∙◌}
use Rattle.shape.specs.Normals.{normal_of}
use Rattle.exact.proofs.Readings.{coordinate, all_stored}
use Rattle.space.proofs.SpaceLaws.{space_at}
use Rattle.kernel.proofs.meeting.put_normal.Goals as goal

pub returns : goal.returns
returns c =
    let n = c.normal_of-n in
    let sized = n.result.of_grid in
    all_stored (_ ∷ _ ∷ _ ∷ []) c.args.normal.now c.requires.0
    ∙ (λ i. (coordinate tt sized 0).is i ∷ (coordinate tt sized 1).is i ∷ (coordinate tt sized 2).is i ∷ [])
    ∙ n.ensures.is
    ∙ space_at c.space_triangle.ensures normal_of
