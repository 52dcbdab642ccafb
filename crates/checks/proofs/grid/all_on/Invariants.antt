-- `checks::grid::all_on` meets its contract: after so many numbers the flag tells whether all of them are on the grid. Assumes nothing.
use Rattle.std.proofs.Common.{◌≡◌, pos, get_or}
use Rattle.shape.specs.Flat.{all_below}
use Rattle.checks.specs.Grid.{on_grid}
use Rattle.checks.proofs.grid.all_on.Given as goal

abbrev pub invariant-loop-z : goal.invariant-loop-z
invariant-loop-z l = l.on ≡ all_below l.z-index (λ k. on_grid (get_or l.numbers k (pos 0)))
