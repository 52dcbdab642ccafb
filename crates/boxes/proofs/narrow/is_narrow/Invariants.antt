-- `boxes::narrow::is_narrow` meets its contract: the flag tells whether all numbers so far are small. Assumes nothing.
use Rattle.std.proofs.Common.{ℕ, ◌<◌, ◌≤◌, List, ℤ, pos, nat_abs, get_or}
use Rattle.shape.specs.Verdicts.{Says}
use Rattle.exact.specs.Small.{narrow}
use Rattle.boxes.proofs.narrow.is_narrow.Given as goal

abbrev pub SmallAt : List ℤ → ℕ → Type 0
SmallAt l k = nat_abs (get_or l k (pos 0)) ≤ narrow

-- The first i numbers are small.
abbrev pub SmallBefore : List ℤ → ℕ → Type 0
SmallBefore l i = (k : ℕ) → k < i → SmallAt l k

abbrev pub invariant-loop-x : goal.invariant-loop-x
invariant-loop-x l = Says l.narrow (SmallBefore l.numbers l.x-index)
