-- What each check that only a listing makes finds, by the facts, and what is known where it is fine: the only place where the tests in the rules
-- of a listing are taken apart. Assumes nothing.
use mathlib.Core.Path.{◌≡◌, refl, ap}
use mathlib.Core.Bool.{Bool, true, false, cond}
use mathlib.Core.List.{List}
use mathlib.Core.Logic.{◌⊎◌, inl, inr}
use Prim.Native.Nat.{ℕ, ◌*◌, ◌%◌, ◌<◌, ◌≤◌}
use native.Mathlib.Omega.{arith}
use borrow.Author.Tests.{leb-true, eqb-true, eqb-false, le-leb, lt-leb, eq-eqb}
use lib.Dec.{eqb, leb}
use lib.IntN.{ℤ}
use lib.ListN.{length}
use Rattle.checks.specs.Answers.{Check, refused, fine}
use Rattle.checks.proofs.AnswerLaws.{never_fine}
use Rattle.checks.proofs.Tables.{at_most_or_above}
use Rattle.listing.specs.Rules.{start_within, list_length, room_for}

-- ---- the start
module _ (start room : ℕ) where
  pub within_fine : start ≤ room → start_within start room ≡ fine
  within_fine h = ap (λ (t : Bool). cond t fine (refused 4 0 room)) (le-leb start room h)

  pub beyond_refused : room < start → start_within start room ≡ refused 4 0 room
  beyond_refused h = ap (λ (t : Bool). cond t fine (refused 4 0 room)) (lt-leb start room h)

  pub fine_within : start_within start room ≡ fine → start ≤ room
  fine_within e = by_place (at_most_or_above start room)
    where
      by_place : (start ≤ room) ⊎ (room < start) → start ≤ room
      by_place (inl h) = h
      by_place (inr h) = absurd (never_fine e (beyond_refused h))

-- ---- the room
module _ (pairs room : ℕ) where
  pub room_fine : 2 * pairs ≤ room → room_for pairs room ≡ fine
  room_fine h = ap (λ (t : Bool). cond t fine (refused 5 0 pairs)) (le-leb (2 * pairs) room h)

  pub no_room_refused : room < 2 * pairs → room_for pairs room ≡ refused 5 0 pairs
  no_room_refused h = ap (λ (t : Bool). cond t fine (refused 5 0 pairs)) (lt-leb (2 * pairs) room h)

  pub fine_room : room_for pairs room ≡ fine → 2 * pairs ≤ room
  fine_room e = by_place (at_most_or_above (2 * pairs) room)
    where
      by_place : (2 * pairs ≤ room) ⊎ (room < 2 * pairs) → 2 * pairs ≤ room
      by_place (inl h) = h
      by_place (inr h) = absurd (never_fine e (no_room_refused h))

-- ---- the length of a list
-- A multiple of nine, and 9,216 at most.
abbrev pub RightLength : List ℤ → Type 0
RightLength numbers = (length numbers % 9 ≡ 0) × (length numbers ≤ 9216)

module _ (numbers : List ℤ) where
  pub right_length_or_not : RightLength numbers ⊎ (RightLength numbers → ⊥)
  right_length_or_not = by_rest (eqb (length numbers % 9) 0) refl (at_most_or_above (length numbers) 9216)
    where
      by_rest : (t : Bool) → eqb (length numbers % 9) 0 ≡ t → (length numbers ≤ 9216) ⊎ (9216 < length numbers) →
          RightLength numbers ⊎ (RightLength numbers → ⊥)
      by_rest true e (inl h) = inl (eqb-true (length numbers % 9) 0 e, h)
      by_rest true e (inr h) = inr (λ right. omega (arith, right.1))
      by_rest false e h = inr (λ right. eqb-false (length numbers % 9) 0 e right.0)

  pub right_length_fine : (side : ℕ) → RightLength numbers → list_length side numbers ≡ fine
  right_length_fine side right =
      let refusal : Check = refused 3 side (length numbers) in
      let whole = eq-eqb (length numbers % 9) 0 right.0 in
      let few = le-leb (length numbers) 9216 right.1 in
      λ i. cond (whole i) (cond (few i) fine refusal) refusal

  pub wrong_length_refused : (side : ℕ) → (RightLength numbers → ⊥) → list_length side numbers ≡ refused 3 side (length numbers)
  wrong_length_refused side wrong = by_tests (eqb (length numbers % 9) 0) refl (leb (length numbers) 9216) refl
    where
      by_tests : (s : Bool) → eqb (length numbers % 9) 0 ≡ s → (t : Bool) → leb (length numbers) 9216 ≡ t →
          cond s (cond t fine (refused 3 side (length numbers))) (refused 3 side (length numbers)) ≡ refused 3 side (length numbers)
      by_tests true e true f = absurd (wrong (eqb-true (length numbers % 9) 0 e, leb-true (length numbers) 9216 f))
      by_tests true e false f = refl
      by_tests false e t f = refl

  pub fine_right_length : (side : ℕ) → list_length side numbers ≡ fine → RightLength numbers
  fine_right_length side e = by_case right_length_or_not
    where
      by_case : RightLength numbers ⊎ (RightLength numbers → ⊥) → RightLength numbers
      by_case (inl right) = right
      by_case (inr wrong) = absurd (never_fine e (wrong_length_refused side wrong))
