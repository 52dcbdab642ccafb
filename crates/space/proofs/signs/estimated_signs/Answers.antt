-- `space::signs::estimated_signs` meets its contract: sure estimates tell the levels. Assumes nothing.
use Rattle.exact.proofs.LevelLaws.{estimate_told}
use Rattle.space.proofs.Guesses.{signs_told, signs_found}
use Rattle.space.proofs.signs.estimated_signs.Goals as goal

pub returns : goal.returns
returns c =
    let t = c.args.t in
    let u = c.args.u in
    let a = c.rough_of-a.ensures in
    let told = signs_told
    (estimate_told t.p.on_grid t.q.on_grid u.p.on_grid u.q.on_grid c.plane_at.ensures a c.rough_of.ensures c.estimate_of-x.ensures)
    (estimate_told t.p.on_grid t.r.on_grid u.r.on_grid u.p.on_grid c.plane_at-2.ensures a c.rough_of-2.ensures c.estimate_of-y.ensures) in
    signs_found c.estimate_of-x.result c.estimate_of-y.result told c.is_below.ensures c.is_below-2.ensures c.is_sure.ensures c.is_sure-2.ensures
