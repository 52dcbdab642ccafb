-- What is known of shapes that the checks passed. Assumes nothing.
use mathlib.Core.Path.{◌≡◌}
use mathlib.Core.List.{List}
use Prim.Native.Nat.{ℕ, ◌*◌}
use lib.IntN.{ℤ}
use lib.ListN.{length}
use Rattle.shape.specs.Points.{points_at}
use Rattle.exact.specs.Grid.{Ready, Passed}
use Rattle.checks.specs.Answers.{fine, ◌then◌}
use Rattle.checks.specs.Rules.{right_length, all_on_grid, FlatShapes, refuses_flat, takes_flat, not_flat, shape_checks, pair_checks}
use Rattle.checks.proofs.AnswerLaws.{then_fine}
use Rattle.checks.proofs.CheckLaws.{fine_long, fine_ready, fine_not_flat}

-- A list that a call takes for a shape: it is ready, and where flat shapes are refused it is not flat.
abbrev pub Taken : FlatShapes → ℕ → ℕ → List ℤ → Type 0
Taken refuses_flat n k l = Passed n k l
Taken takes_flat n k l = Ready (k * n) l

pub passed : (flats : FlatShapes) (n k side : ℕ) (l : List ℤ) → length l ≡ k * n → shape_checks flats n k side l ≡ fine → Taken flats n k l
passed refuses_flat n k side l long checks =
    let both = then_fine (all_on_grid side l) (not_flat n side (points_at n k 0 l)) checks in
    record { ready = fine_ready side l long both.0; never_flat = fine_not_flat refuses_flat n side (points_at n k 0 l) both.1 }
passed takes_flat n k side l long checks = fine_ready side l long (then_fine (all_on_grid side l) fine checks).0

pub both_passed : (flats : FlatShapes) (n k m : ℕ) (first second : List ℤ) → pair_checks flats n k m first second ≡ fine →
    Taken flats n k first × Taken flats n m second
both_passed flats n k m first second e =
    let shapes = shape_checks flats n k 0 first then shape_checks flats n m 1 second in
    let one = then_fine (right_length 0 (k * n) first) (right_length 1 (m * n) second then shapes) e in
    let two = then_fine (right_length 1 (m * n) second) shapes one.1 in
    let three = then_fine (shape_checks flats n k 0 first) (shape_checks flats n m 1 second) two.1 in
    (passed flats n k 0 first (fine_long 0 (k * n) first one.0) three.0, passed flats n m 1 second (fine_long 1 (m * n) second two.0) three.1)
