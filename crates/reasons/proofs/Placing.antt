-- The checks of a place: those that look at no slot, which come first and together, and what is known of a place that they pass.
-- Assumes nothing.
use mathlib.Core.Path.{◌≡◌, refl, sym, ap, ◌∙◌}
use mathlib.Core.Bool.{Bool, true, false, cond}
use mathlib.Core.List.{List}
use Prim.Native.Nat.{ℕ, ◌≤◌}
use borrow.Author.Tests.{ltb-false}
use lib.Dec.{ltb}
use lib.IntN.{ℤ}
use lib.ListN.{length}
use Rattle.exact.specs.Grid.{Ready}
use Rattle.checks.specs.Answers.{refused, fine, ◌then◌}
use Rattle.checks.specs.Rules.{right_length, refuses_flat, shape_checks}
use Rattle.checks.proofs.AnswerLaws.{never_fine, then_fine}
use Rattle.checks.proofs.CheckLaws.{fine_long}
use Rattle.checks.proofs.Passing.{passed}
use Rattle.slots.specs.Slots.{Slot}
use Rattle.slots.specs.Changes.{place}
use Rattle.reasons.specs.Rules.{slot_within, part_within, slot_free, change_checks}
pub use Rattle.reasons.proofs.PlaceOrder.{placing, place_order}

-- A check that refuses a number above n refuses nothing: the number is not above n.
pub not_above : (m n number side at : ℕ) → cond (ltb n m) (refused number side at) fine ≡ fine → m ≤ n
not_above m n number side at e = by_test (ltb n m) refl
  where
    by_test : (t : Bool) → ltb n m ≡ t → m ≤ n
    by_test true f = absurd (never_fine e (ap (λ (t : Bool). cond t (refused number side at) fine) f))
    by_test false f = ltb-false n m f

-- A place that is accepted passes both.
pub place_passes : (S : List Slot) (s q : ℕ) (l : List ℤ) → change_checks S (place s q l) ≡ fine →
    (placing s q l ≡ fine) × (slot_free S s ≡ fine)
place_passes S s q l e = then_fine (placing s q l) (slot_free S s) (sym (place_order S s q l) ∙ e)

-- What passes the first checks.
module _ (s q : ℕ) (l : List ℤ) (e : placing s q l ≡ fine) where
  from_slot : (slot_within s ≡ fine) × ((part_within 0 q then right_length 0 9 l then shape_checks refuses_flat 3 3 0 l) ≡ fine)
  from_slot = then_fine (slot_within s) (part_within 0 q then right_length 0 9 l then shape_checks refuses_flat 3 3 0 l) e

  from_part : (part_within 0 q ≡ fine) × ((right_length 0 9 l then shape_checks refuses_flat 3 3 0 l) ≡ fine)
  from_part = then_fine (part_within 0 q) (right_length 0 9 l then shape_checks refuses_flat 3 3 0 l) from_slot.1

  from_length : (right_length 0 9 l ≡ fine) × (shape_checks refuses_flat 3 3 0 l ≡ fine)
  from_length = then_fine (right_length 0 9 l) (shape_checks refuses_flat 3 3 0 l) from_part.1

  pub slot_is_within : s ≤ 63
  slot_is_within = not_above s 63 6 0 s from_slot.0

  pub part_is_within : q ≤ 15
  part_is_within = not_above q 15 7 0 q from_part.0

  pub nine_long : length l ≡ 9
  nine_long = fine_long 0 9 l from_length.0

  pub placed_ready : Ready 9 l
  placed_ready = (passed refuses_flat 3 3 0 l nine_long from_length.1).ready
