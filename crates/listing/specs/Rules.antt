-- The answer and the buffer afterwards for every input of a listing (document 01, "Listing" and "Reasons for saying no").
use Rattle.std.specs.Prelude.{◌≡◌, Bool, cond, List, ◌++◌, ℕ, ◌+◌, ◌-◌, ◌*◌, ◌%◌, ◌<◌, eqb, leb, ℤ, length, take, drop}
use Rattle.kernel.specs.Meeting.{Judges}
use Rattle.checks.specs.Answers.{Answer, served, refused, Check, fine, ◌then◌, with_served}
use Rattle.checks.specs.Rules.{all_on_grid}
use Rattle.boxes.specs.Triangles.{triangles, nine}
use Rattle.listing.specs.Pairs.{Pair, pairs_of, two_each}

-- ---- the reasons for saying no
-- Reason 4: a start beyond the end of a buffer of so many numbers. The place is the buffer's length.
abbrev pub start_within : ℕ → ℕ → Check
start_within start long = cond (leb start long) fine (refused 4 0 long)

-- Reason 3: a length that is not a multiple of nine, or above 9,216. The place is the length.
abbrev pub list_length : ℕ → List ℤ → Check
list_length side numbers =
    cond (eqb (length numbers % 9) 0)
    (cond (leb (length numbers) 9216) fine (refused 3 side (length numbers)))
    (refused 3 side (length numbers))

-- 4, then 3 of both lists, then 1 of the first list and of the second. A flat triangle is listed as the segment or the point that it is.
abbrev pub input_checks : List ℤ → List ℤ → List ℕ → ℕ → Check
input_checks a b buffer start =
    start_within start (length buffer) then list_length 0 a then list_length 1 b then all_on_grid 0 a then all_on_grid 1 b

-- Reason 5: fewer than two numbers of room a pair, from the start on. The place is the number of pairs.
abbrev pub room_for : ℕ → ℕ → Check
room_for pairs room = cond (leb (2 * pairs) room) fine (refused 5 0 pairs)

-- ---- the listing
-- What is listed, by which pairs meet.
abbrev pub outcome : (ℕ → ℕ → Bool) → List ℤ → List ℤ → List ℕ → ℕ → Answer (List Pair)
outcome meets a b buffer start =
    let pairs = pairs_of meets (triangles a) (triangles b) in
    input_checks a b buffer start then room_for (length pairs) (length buffer - start) then served pairs

-- The buffer afterwards: the pairs stand in it from the start on, and all else in it stays; a refusal leaves it whole.
abbrev pub afterwards : List ℕ → ℕ → Answer (List Pair) → List ℕ
afterwards buffer start (served pairs) = take start buffer ++ two_each pairs ++ drop (start + 2 * length pairs) buffer
afterwards buffer start (refused number side place) = buffer

-- A listing: the answer carries the count of the pairs, and where the input is fine the pairs that meet are those that have a point in common.
pub record ListRule (a b : List ℤ) (buffer : List ℕ) (start : ℕ) (answer : Answer ℕ) (after : List ℕ) : Type 0 where
  pub meets : ℕ → ℕ → Bool
  pub right : input_checks a b buffer start ≡ fine → (i j : ℕ) → i < triangles a → j < triangles b → Judges 3 3 3 (nine i a) (nine j b) (meets i j)
  pub told : answer ≡ with_served length (outcome meets a b buffer start)
  pub left : after ≡ afterwards buffer start (outcome meets a b buffer start)
