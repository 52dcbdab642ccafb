-- `exact::determinant::side_at` meets its contract: the side over the plane's normal is the determinant. Assumes nothing.
use Rattle.std.proofs.Common.{ap, ◌∙◌}
use Rattle.shape.specs.Signs.{row}
use Rattle.shape.specs.Normals.{dot}
use Rattle.shape.proofs.Planes.{side_by_normal}
use Rattle.exact.specs.Vectors.{spatial}
use Rattle.exact.proofs.determinant.side_at.Goals as goal

pub returns : goal.returns
returns c =
    let p = c.args in
    c.side_over.ensures
    ∙ ap (dot (row (spatial p.c) (spatial p.d))) c.normal_at.ensures
    ∙ side_by_normal (spatial p.a) (spatial p.b) (spatial p.c) (spatial p.d)
