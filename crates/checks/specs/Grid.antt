-- The numbers of a list against the grid (document 01), whose end `limit` crate `exact` names in its specs/Grid.antt.
use Rattle.std.specs.Prelude.{Bool, cond, List, [], ◌∷◌, ℕ, suc, leb, ℤ, pos, nat_abs, length, get_or}
use Rattle.shape.specs.Flat.{all_below}
use Rattle.exact.specs.Grid.{limit}

abbrev pub on_grid : ℤ → Bool
on_grid z = leb (nat_abs z) limit

-- The lowest position whose number is off the grid, or the length of the list where all are on it.
abbrev pub lowest_off : List ℤ → ℕ
lowest_off [] = 0
lowest_off (z ∷ numbers) = cond (on_grid z) (suc (lowest_off numbers)) 0

-- Whether every number of a list is on the grid.
abbrev pub all_on : List ℤ → Bool
all_on numbers = all_below (length numbers) (λ k. on_grid (get_or numbers k (pos 0)))
