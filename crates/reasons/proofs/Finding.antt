-- What the checks of a change find together, from what they find one after the other: a check that was made refused, and then the checks after it
-- aren't made, or it was fine. Assumes nothing.
use Rattle.std.proofs.Common.{◌≡◌, sym, ◌∙◌, ℕ, suc, List, map}
use lib.IntN.{ℤ}
use Rattle.checks.specs.Answers.{Check, fine, ◌then◌}
use Rattle.slots.specs.Slots.{Slot, is_of}
use Rattle.slots.specs.Changes.{thrice}
use Rattle.slots.specs.Arrays.{mark_of}
use Rattle.slots.specs.Counting.{has_mark}
use Rattle.slots.specs.Showing.{Shown}
use Rattle.slots.proofs.Clashing.{some_mark}
use Rattle.shape.specs.Lists.{some}
use Rattle.reasons.specs.Findings.{PlaceFound, LiftFound, ShiftFound}
use Rattle.reasons.specs.Rules.{slot_within, part_within, slot_free, slot_filled, part_present, part_stays, change_checks}
use Rattle.reasons.proofs.Placing.{placing, place_order, not_above, slot_is_within, part_is_within, placed_ready}

-- The mark of a part is one more than its number, so the marks tell which parts are present.
pub present : (S : List Slot) {marks : List ℕ} {mark : ℕ} (q : ℕ) → mark ≡ suc q → marks ≡ map mark_of S → some (has_mark mark) marks ≡ some (is_of q) S
present S q f e = (λ i. some (has_mark (f i)) (e i)) ∙ some_mark q S

pub place_found : {marks : List ℕ} {s q : ℕ} {l : List ℤ} {found first : Check} → first ≡ placing s q l →
    ((S : List Slot) → marks ≡ map mark_of S → found ≡ (first then slot_free S s)) → (found ≡ fine → first ≡ fine) → PlaceFound marks s q l found
place_found {s} {q} {l} e rest passed = record {
  rule = λ S m. rest S m ∙ (λ i. e i then slot_free S s) ∙ sym (place_order S s q l);
  slot_is_within = λ f. slot_is_within s q l (sym e ∙ passed f);
  part_is_within = λ f. part_is_within s q l (sym e ∙ passed f);
  ready = λ f. placed_ready s q l (sym e ∙ passed f);
}

pub lift_found : {marks : List ℕ} {s : ℕ} {found first : Check} → first ≡ slot_within s →
    ((S : List Slot) → marks ≡ map mark_of S → found ≡ (first then slot_filled S s)) → (found ≡ fine → first ≡ fine) → LiftFound marks s found
unfolding change_checks
lift_found {s} e rest passed = record {
  rule = λ S m. rest S m ∙ (λ i. e i then slot_filled S s);
  slot_is_within = λ f. not_above s 63 6 0 s (sym e ∙ passed f);
}

pub shift_found : {coords : List ℤ} {marks : List ℕ} {q : ℕ} {dx dy dz : ℤ} {found first : Check} → first ≡ part_within 0 q →
    ((S : List Slot) → Shown S coords marks → found ≡ (first then part_present 0 S q then part_stays S q (thrice dx dy dz))) →
    (found ≡ fine → first ≡ fine) → ShiftFound coords marks q dx dy dz found
unfolding change_checks
shift_found {q} {dx} {dy} {dz} e rest passed = record {
  rule = λ S h. rest S h ∙ (λ i. e i then part_present 0 S q then part_stays S q (thrice dx dy dz));
  part_is_within = λ f. not_above q 15 7 0 q (sym e ∙ passed f);
}
