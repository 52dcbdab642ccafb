-- `moving::steps::move_numbers` meets its contract: after k numbers the first k are those of the list moved, and the others are still
-- the old ones. This is known only where the whole list stays on the grid. Assumes nothing.
use Rattle.std.proofs.Common.{◌≡◌, Bool, true, List, ℤ}
use Rattle.algebra.proofs.Copying.{over}
use Rattle.shape.specs.Points.{moved}
use Rattle.checks.specs.Grid.{all_on}
use Rattle.moving.specs.Moves.{steps}
use Rattle.moving.proofs.steps.move_numbers.Given as goal

-- the list that is to come out
abbrev pub out : List ℤ → List ℤ → Bool → List ℤ
out numbers by back = moved (steps back by) numbers

abbrev pub invariant-loop-k : goal.invariant-loop-k
invariant-loop-k l = all_on (out l.fn.numbers l.by l.back) ≡ true → l.numbers ≡ over l.fn.numbers (out l.fn.numbers l.by l.back) l.k
