-- How code finds the lowest position off the grid. (It stands in a file of its own so that an edit of it alone can be tried; GridLaws gives
-- it on.) Assumes nothing.
use mathlib.Core.Path.{◌≡◌, sym, ap, ◌∙◌}
use mathlib.Core.Bool.{Bool, true, false, cond}
use mathlib.Core.List.{List, [], ◌∷◌}
use Prim.Native.Nat.{ℕ, zero, suc, ◌<◌, ◌≤◌}
use native.Mathlib.Omega.{arith}
use lib.IntN.{ℤ, pos}
use lib.ListN.{get_or, length}
use Rattle.checks.specs.Grid.{on_grid, lowest_off}

-- Nothing before i is off the grid, and i is, unless it is the end.
pub lowest_is : (l : List ℤ) (i : ℕ) → i ≤ length l → ((k : ℕ) → k < i → on_grid (get_or l k (pos 0)) ≡ true) →
    (i < length l → on_grid (get_or l i (pos 0)) ≡ false) → i ≡ lowest_off l
lowest_is [] i h on off = omega arith
lowest_is (z ∷ l) zero h on off = ap (λ (t : Bool). cond t (suc (lowest_off l)) 0) (sym (off (omega arith)))
lowest_is (z ∷ l) (suc i) h on off =
    ap suc (lowest_is l i (omega arith) (λ k p. on (suc k) (omega arith)) (λ p. off (omega arith)))
    ∙ ap (λ (t : Bool). cond t (suc (lowest_off l)) 0) (sym (on 0 (omega arith)))
