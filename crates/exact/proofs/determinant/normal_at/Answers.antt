-- `exact::determinant::normal_at` meets its contract: the minors of the two rows. Assumes nothing.
use Rattle.exact.proofs.Readings.{sized_normal, sized_minors}
use Rattle.exact.proofs.determinant.normal_at.Goals as goal

pub minors_of-requires : goal.minors_of-requires
minors_of-requires c =
    let p = c.args in
    sized_minors (sized_normal p.a.on_grid p.b.on_grid p.c.on_grid) c.row_of.ensures c.row_of-2.ensures
