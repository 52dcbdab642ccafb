-- What is known of the points that the checks of a value call passed. One law for the plane and space. Assumes nothing.
use mathlib.Core.Path.{◌≡◌, sym}
use mathlib.Core.List.{List}
use Prim.Native.Nat.{ℕ, suc, ◌*◌}
use lib.IntN.{ℤ}
use Rattle.exact.specs.Grid.{Ready}
use Rattle.checks.specs.Answers.{fine, ◌then◌}
use Rattle.checks.specs.Rules.{right_length, all_on_grid}
use Rattle.checks.proofs.AnswerLaws.{then_fine}
use Rattle.checks.proofs.CheckLaws.{fine_long, fine_ready}

-- n + 1 points of n coordinates, given as the list l.
pub points_ready : (n : ℕ) (l : List ℤ) → fine ≡ (right_length 0 (suc n * n) l then all_on_grid 0 l) → Ready (suc n * n) l
points_ready n l e =
    let both = then_fine (right_length 0 (suc n * n) l) (all_on_grid 0 l) (sym e) in
    fine_ready 0 l (fine_long 0 (suc n * n) l both.0) both.1
