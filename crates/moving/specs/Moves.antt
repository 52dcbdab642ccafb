-- A list of numbers moved: to each is added its step. `moved` of crate `shape` is the sum, number by number.
use Rattle.std.specs.Prelude.{Bool, cond, List, map, ℤ, neg_ℤ}

-- A step, or the same step backwards.
abbrev pub step : Bool → ℤ → ℤ
step back d = cond back (neg_ℤ d) d

-- The steps of a move, or of the same move backwards.
abbrev pub steps : Bool → List ℤ → List ℤ
steps back by = map (step back) by
