-- The answer to every input: document 01's table and order of reasons (specs/Rules.antt of crate `checks`), and the definitions of crate
-- `shape`.
use Rattle.std.specs.Prelude.{◌≡◌, Bool, List, ℕ, suc, ◌*◌, ℤ}
use Rattle.shape.specs.Points.{points_at}
use Rattle.shape.specs.Signs.{bracket, sign}
use Rattle.kernel.specs.Meeting.{Judges}
use Rattle.checks.specs.Answers.{Answer, served, fine, ◌then◌, with_served}
use Rattle.checks.specs.Rules.{right_length, all_on_grid, FlatShapes, pair_checks}

-- The determinant of n + 1 points of n coordinates, given as one list (n is 2 in the plane, 3 in space): 3, then 1, otherwise
-- its value is served.
abbrev pub value_rule : ℕ → List ℤ → Answer ℤ
value_rule n numbers =
    right_length 0 (suc n * n) numbers then all_on_grid 0 numbers then served (bracket (points_at n (suc n) 0 numbers))

-- A sign call: the same refusals, and otherwise the sign of the determinant.
abbrev pub sign_rule : ℕ → List ℤ → Answer ℤ
sign_rule n numbers = with_served sign (value_rule n numbers)

-- A verdict call, which refuses flat shapes or takes them: what the checks refuse it refuses, otherwise it serves a verdict, yes (true) or
-- no; and where the checks refuse nothing, the verdict is yes exactly when the two shapes have a point in common.
pub record VerdictRule (flats : FlatShapes) (n k m : ℕ) (first second : List ℤ) (answer : Answer Bool) : Type 0 where
  pub verdict : Bool
  pub told : answer ≡ (pair_checks flats n k m first second then served verdict)
  pub right : pair_checks flats n k m first second ≡ fine → Judges n k m first second verdict
