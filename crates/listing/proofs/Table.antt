-- Each reason of a listing is given exactly in the case that document 01's table states, with the side and the place stated there.
-- `ListCase` is the table and `list_exactly` the theorem; between them is its proof. No case has the number 2, which a listing never gives
-- (`list_two_never`). The words are those of Order and of ListChecks. Assumes nothing.
use mathlib.Core.Path.{◌≡◌, refl, ap, ◌∙◌}
use mathlib.Core.List.{List}
use mathlib.Core.Logic.{◌↔◌, ◌⊎◌, inl, inr}
use Prim.Native.Nat.{ℕ, ◌+◌, ◌-◌, ◌*◌, ◌<◌, ◌≤◌}
use native.Mathlib.Omega.{arith}
use lib.IntN.{ℤ}
use lib.ListN.{length}
use Rattle.checks.specs.Answers.{Answer, served, refused, Check, fine, ◌then◌, with_served, number_of, side_of, place_of}
use Rattle.checks.specs.Rules.{all_on_grid}
use Rattle.checks.proofs.GridLaws.{Lowest}
use Rattle.checks.proofs.CheckLaws.{OnGrid, GridCase, all, not_all, grid_case, on_fine, off_refused}
use Rattle.checks.proofs.Tables.{Gives, gives_as, SomeCase, exactly, at_most_or_above}
use Rattle.boxes.specs.Triangles.{triangles}
use Rattle.listing.specs.Pairs.{Pair, pairs_of}
use Rattle.listing.specs.Rules.{list_length, input_checks, room_for, outcome, ListRule}
use Rattle.listing.proofs.Order.{MeetingPairs, meeting_fixed, verdicts_list}
use Rattle.listing.proofs.ListChecks.{within_fine, beyond_refused, room_fine, no_room_refused, RightLength, right_length_or_not, right_length_fine, wrong_length_refused}

-- Of a listing of the lists a and b, into a buffer from a start on.
module _ (a b : List ℤ) (buffer : List ℕ) (start : ℕ) where
  -- No fault of the start or of a length, and none of the input at all.
  pub record RightLengths : Type 0 where
    pub within : start ≤ length buffer
    pub first : RightLength a
    pub second : RightLength b

  pub record FineInput : Type 0 where
    pub lengths : RightLengths
    pub first : OnGrid a
    pub second : OnGrid b

  -- The table: what goes with each number, side and place. Each case says that no fault before it is there, and so the first wins.
  pub data ListCase : (number side place : ℕ) → Type 0 where
    -- 4: the start is beyond the buffer's end. The place is the buffer's length.
    start_beyond : length buffer < start → ListCase 4 0 (length buffer)
    -- 3: the first list's length is no multiple of nine or above 9,216, then the second's. The place is the length.
    first_length : start ≤ length buffer → (RightLength a → ⊥) → ListCase 3 0 (length a)
    second_length : start ≤ length buffer → RightLength a → (RightLength b → ⊥) → ListCase 3 1 (length b)
    -- 1: the first list has a number off the grid, then the second. The place is the lowest such position.
    first_off : (place : ℕ) → RightLengths → Lowest a place → ListCase 1 0 place
    second_off : (place : ℕ) → RightLengths → OnGrid a → Lowest b place → ListCase 1 1 place
    -- 5: fewer than two numbers of room a pair, for all pairs that have a point in common. The place is how many there are.
    no_room : (pairs : List Pair) → FineInput → MeetingPairs a b pairs →
        length buffer < start + 2 * length pairs → ListCase 5 0 (length pairs)
    -- 0: there is room for them; the listing is served.
    none : (pairs : List Pair) → FineInput → MeetingPairs a b pairs → start + 2 * length pairs ≤ length buffer → ListCase 0 0 0

  -- ---- the five checks of the input
  abbrev checks : Check
  checks = input_checks a b buffer start

  -- Where the start and the lengths are right the numbers decide.
  numbers_decide : RightLengths → checks ≡ (all_on_grid 0 a then all_on_grid 1 b)
  numbers_decide h =
      let c = within_fine start (length buffer) h.within in
      let d = right_length_fine a 0 h.first in
      let e = right_length_fine b 1 h.second in
      λ i. c i then d i then e i then all_on_grid 0 a then all_on_grid 1 b

  input_fine : FineInput → checks ≡ fine
  input_fine h =
      let f = on_fine 0 a h.first in
      let g = on_fine 1 b h.second in
      numbers_decide h.lengths ∙ (λ i. f i then g i)

  module _ {answer : Answer ℕ} {after : List ℕ} (rule : ListRule a b buffer start answer after) where
    abbrev pairs : List Pair
    pairs = pairs_of rule.meets (triangles a) (triangles b)

    abbrev room : Check
    room = room_for (length pairs) (length buffer - start)

    -- Where the input is fine the pairs of the rule are those of the definition.
    meeting : FineInput → MeetingPairs a b pairs
    meeting h = verdicts_list a b rule.meets (rule.right (input_fine h))

    same_count : {ps : List Pair} → FineInput → MeetingPairs a b ps → length pairs ≡ length ps
    same_count h met = ap length (meeting_fixed (meeting h) met)

    -- ---- from the case to the answer
    gives : (found : Answer (List Pair)) → outcome rule.meets a b buffer start ≡ found →
        Gives answer (number_of (with_served length found)) (side_of (with_served length found)) (place_of (with_served length found))
    gives found e = gives_as (rule.told ∙ ap (with_served length) e)

    gives_check : {number side place : ℕ} → checks ≡ refused number side place → Gives answer number side place
    gives_check {number} {side} {place} e = gives (refused number side place) (ap (λ (c : Check). c then room then served pairs) e)

    from_case : (number side place : ℕ) → ListCase number side place → Gives answer number side place
    from_case number side place (start_beyond h) =
        let c = beyond_refused start (length buffer) h in
        gives_check (λ i. c i then list_length 0 a then list_length 1 b then all_on_grid 0 a then all_on_grid 1 b)
    from_case number side place (first_length h wrong) =
        let c = within_fine start (length buffer) h in
        let d = wrong_length_refused a 0 wrong in
        gives_check (λ i. c i then d i then list_length 1 b then all_on_grid 0 a then all_on_grid 1 b)
    from_case number side place (second_length h right wrong) =
        let c = within_fine start (length buffer) h in
        let d = right_length_fine a 0 right in
        let e = wrong_length_refused b 1 wrong in
        gives_check (λ i. c i then d i then e i then all_on_grid 0 a then all_on_grid 1 b)
    from_case number side place (first_off at h low) =
        gives_check (numbers_decide h ∙ ap (λ (c : Check). c then all_on_grid 1 b) (off_refused 0 at a low))
    from_case number side place (second_off at h on low) =
        let f = on_fine 0 a on in
        let g = off_refused 1 at b low in
        gives_check (numbers_decide h ∙ (λ i. f i then g i))
    from_case number side place (no_room ps h met few) =
        let count = same_count h met in
        let c = input_fine h in
        let d = no_room_refused (length pairs) (length buffer - start) (omega (arith, h.lengths.within)) in
        let found = gives (refused 5 0 (length pairs)) (λ i. c i then d i then served pairs) in
        (found.0, found.1, found.2 ∙ count)
    from_case number side place (none ps h met enough) =
        let count = same_count h met in
        let c = input_fine h in
        let d = room_fine (length pairs) (length buffer - start) (omega (arith, h.lengths.within)) in
        gives (served pairs) (λ i. c i then d i then served pairs)

    -- ---- some case holds
    some_case : SomeCase ListCase
    some_case = by_start (at_most_or_above start (length buffer)) (right_length_or_not a) (right_length_or_not b)
      where
        by_room : FineInput → SomeCase ListCase
        by_room h = decide (at_most_or_above (start + 2 * length pairs) (length buffer))
          where
            decide : (start + 2 * length pairs ≤ length buffer) ⊎ (length buffer < start + 2 * length pairs) → SomeCase ListCase
            decide (inl enough) = record { number = 0; side = 0; place = 0; found = none pairs h (meeting h) enough }
            decide (inr few) = record { number = 5; side = 0; place = length pairs; found = no_room pairs h (meeting h) few }

        by_numbers : RightLengths → GridCase 0 a → GridCase 1 b → SomeCase ListCase
        by_numbers h (not_all low e) g = record { number = 1; side = 0; place = _; found = first_off _ h low }
        by_numbers h (all on e) (not_all low g) = record { number = 1; side = 1; place = _; found = second_off _ h on low }
        by_numbers h (all on e) (all on' g) = by_room (record { lengths = h; first = on; second = on' })

        by_start : (start ≤ length buffer) ⊎ (length buffer < start) →
            RightLength a ⊎ (RightLength a → ⊥) → RightLength b ⊎ (RightLength b → ⊥) → SomeCase ListCase
        by_start (inr h) f g = record { number = 4; side = 0; place = length buffer; found = start_beyond h }
        by_start (inl h) (inr wrong) g = record { number = 3; side = 0; place = length a; found = first_length h wrong }
        by_start (inl h) (inl right) (inr wrong) = record { number = 3; side = 1; place = length b; found = second_length h right wrong }
        by_start (inl h) (inl right) (inl right') =
            by_numbers (record { within = h; first = right; second = right' }) (grid_case 0 a) (grid_case 1 b)

    -- ---- the answer
    -- An answer that meets the contract of a listing gives a number, a side and a place exactly in their case.
    pub list_exactly : (number side place : ℕ) → ListCase number side place ↔ Gives answer number side place
    list_exactly number side place = exactly answer ListCase from_case some_case

    -- It never gives 2.
    pub list_two_never : number_of answer ≡ 2 → ⊥
    list_two_never two = no_case two ((list_exactly (number_of answer) (side_of answer) (place_of answer)).1 (refl, refl, refl))
      where
        no_case : {number side place : ℕ} → number ≡ 2 → ListCase number side place → ⊥
        no_case e (start_beyond h) = omega arith
        no_case e (first_length h wrong) = omega arith
        no_case e (second_length h right wrong) = omega arith
        no_case e (first_off at h low) = omega arith
        no_case e (second_off at h on low) = omega arith
        no_case e (no_room ps h met few) = omega (arith, e)
        no_case e (none ps h met enough) = omega (arith, e)
