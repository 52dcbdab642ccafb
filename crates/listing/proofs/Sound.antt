-- What is known of lists that the checks of a listing passed (specs/Boxes.antt of crate `boxes`). Assumes nothing.
use mathlib.Core.Path.{◌≡◌, refl}
use mathlib.Core.List.{List}
use Prim.Native.Nat.{ℕ, ◌*◌, ◌≤◌}
use native.Mathlib.Omega.{arith}
use lib.IntN.{ℤ}
use lib.ListN.{length, drop}
use Rattle.algebra.proofs.Parts.{length_part}
use Rattle.checks.specs.Answers.{fine, ◌then◌}
use Rattle.checks.specs.Rules.{all_on_grid}
use Rattle.checks.proofs.AnswerLaws.{then_fine}
use Rattle.checks.proofs.CheckLaws.{fine_ready, on_take, on_drop}
use Rattle.boxes.specs.Boxes.{Sound}
use Rattle.listing.specs.Rules.{start_within, list_length, input_checks}
use Rattle.listing.proofs.ListChecks.{fine_within, fine_right_length}

-- A list that passed is sound, since the numbers of each triangle are the list's; and both lists of a listing are where all checks of the
-- input are fine.
list_sound : (side : ℕ) (numbers : List ℤ) → list_length side numbers ≡ fine → all_on_grid side numbers ≡ fine → Sound numbers
list_sound side numbers right on = record {
  few = omega (arith, (fine_right_length numbers side right).1);
  ready = λ i h. record {
    long = length_part (9 * i) 9 numbers (omega arith);
    each = on_take 9 (drop (9 * i) numbers) (on_drop (9 * i) numbers (fine_ready side numbers refl on).each);
  };
}

pub both_sound : (a b : List ℤ) (buffer : List ℕ) (start : ℕ) → input_checks a b buffer start ≡ fine → Sound a × Sound b
both_sound a b buffer start e =
    let grids = all_on_grid 0 a then all_on_grid 1 b in
    let one = then_fine (start_within start (length buffer)) (list_length 0 a then list_length 1 b then grids) e in
    let two = then_fine (list_length 0 a) (list_length 1 b then grids) one.1 in
    let three = then_fine (list_length 1 b) grids two.1 in
    let four = then_fine (all_on_grid 0 a) (all_on_grid 1 b) three.1 in
    (list_sound 0 a two.0 four.0, list_sound 1 b three.0 four.1)

pub start_within_law : (a b : List ℤ) (buffer : List ℕ) (start : ℕ) → input_checks a b buffer start ≡ fine → start ≤ length buffer
start_within_law a b buffer start e =
    fine_within start (length buffer)
    (then_fine (start_within start (length buffer)) (list_length 0 a then list_length 1 b then all_on_grid 0 a then all_on_grid 1 b) e).0
