-- `space::standings::estimated_standing` meets its contract: a pattern that is not in doubt is that of the two lists. Assumes nothing.
use Rattle.shape.specs.SpaceTest.{pattern}
use Rattle.space.proofs.SpaceLaws.{spaces_at}
use Rattle.space.proofs.Guesses.{guessed_standing}
use Rattle.space.proofs.standings.estimated_standing.Goals as goal

pub returns : goal.returns
returns c =
    let t = c.space_triangle.ensures in
    let u = c.space_triangle-2.ensures in
    guessed_standing c.guess_of-guess.ensures (spaces_at t u pattern) c.standing_of.ensures
