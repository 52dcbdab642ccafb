-- `space::standings::guess_of` meets its contract: sure estimates tell the levels. Assumes nothing.
use Rattle.exact.proofs.LevelLaws.{estimate_told}
use Rattle.space.proofs.Guesses.{guessed}
use Rattle.space.proofs.standings.guess_of.Goals as goal

pub returns : goal.returns
returns c =
    let t = c.args.t in
    let u = c.args.u in
    let a = c.rough_of-a.ensures in
    rw (c.sure_level.ensures, c.sure_level-2.ensures, c.sure_level-3.ensures, c.is_sure.ensures, c.is_sure-2.ensures, c.is_sure-3.ensures)
    (guessed
    (estimate_told u.p.on_grid u.q.on_grid u.r.on_grid t.p.on_grid c.requires a c.rough_of.ensures c.estimate_of-x.ensures)
    (estimate_told u.p.on_grid u.q.on_grid u.r.on_grid t.q.on_grid c.requires a c.rough_of-2.ensures c.estimate_of-y.ensures)
    (estimate_told u.p.on_grid u.q.on_grid u.r.on_grid t.r.on_grid c.requires a c.rough_of-3.ensures c.estimate_of-z.ensures))
