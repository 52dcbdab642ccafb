-- A part moved slot by slot: the slots when the first k of them are done, and what the arrays show then. Assumes nothing.
use mathlib.Core.Path.{◌≡◌, refl, sym, ap, subst, ◌∙◌}
use mathlib.Core.List.{List, [], ◌∷◌, map}
use mathlib.Core.Bool.{true}
use Prim.Native.Nat.{ℕ, zero, suc, ◌+◌, ◌-◌, ◌*◌, ◌<◌, ◌≤◌}
use native.Mathlib.Numerals.{add-one}
use native.Mathlib.Omega.{arith}
use lib.IntN.{ℤ}
use lib.ListN.{set, get_or, length, take, drop}
use lib.Seq.{set-get_or}
use borrow.Rule.Slice.PartMut.{put_mid}
use Rattle.algebra.proofs.Parts.{part}
use Rattle.shape.specs.Points.{moved}
use Rattle.checks.specs.Grid.{all_on}
use Rattle.checks.proofs.CheckLaws.{on_all}
use Rattle.algebra.proofs.Copying.{over, over_at, over_more, over_all}
use Rattle.slots.specs.Slots.{Slot, free}
use Rattle.slots.specs.Changes.{shifted}
use Rattle.slots.specs.Arrays.{numbers_of, mark_of, flat}
use Rattle.slots.specs.Showing.{FitSlot, Fit, Shown, SlotMoved}
use Rattle.slots.proofs.Counts.{mark_shifted}
use Rattle.slots.proofs.Sliding.{shifted_at, shifted_other, shifted_own}
use Rattle.slots.proofs.Arrays.{coords_written, mark_is, numbers_are}

-- ---- one slot
-- The nine numbers at a slot with the mark are moved in place, and any other slot is what it was.
pub slot_moved : (coords : List ℤ) (marks : List ℕ) (i mark : ℕ) (by : List ℤ) {new : List ℤ} → i < 64 → get_or marks i 0 ≡ mark
    → (all_on (moved by (take (9 * i + 9 - 9 * i) (drop (9 * i) coords))) ≡ true → new ≡ moved by (take (9 * i + 9 - 9 * i) (drop (9 * i) coords)))
    → SlotMoved coords marks i mark by (put_mid (9 * i) (9 * i + 9 - 9 * i) coords new)
slot_moved coords marks i mark by inside same told = record {
  is = λ S q h e f.
      let x = get_or S i free in
      let own : mark_of x ≡ suc q = sym (mark_is h i) ∙ same ∙ e in
      let was : take (9 * i + 9 - 9 * i) (drop (9 * i) coords) ≡ numbers_of x = part (9 * i) 9 coords ∙ numbers_are h i inside in
      let is : moved by (take (9 * i + 9 - 9 * i) (drop (9 * i) coords)) ≡ numbers_of (shifted q by x) = ap (moved by) was ∙ sym (shifted_own q by x own) in
      coords_written h i (shifted q by x) (9 * i + 9 - 9 * i) inside (omega arith) (told (ap all_on is ∙ on_all (numbers_of (shifted q by x)) f.each) ∙ is);
}

pub slot_kept : (coords : List ℤ) (marks : List ℕ) (i mark : ℕ) (by : List ℤ) → (get_or marks i 0 ≡ mark → ⊥) → SlotMoved coords marks i mark by coords
slot_kept coords marks i mark by different = record {
  is = λ S q h e f.
      let x = get_or S i free in
      let other : shifted q by x ≡ x = shifted_other q by x (λ own. different (mark_is h i ∙ own ∙ sym e)) in
      h.coords_are ∙ ap flat (sym (ap (set S i) other ∙ set-get_or S i free));
}

-- ---- all slots
module _ (q : ℕ) (by : List ℤ) where
  -- The slots S, the first k of them moved.
  abbrev pub begun : List Slot → ℕ → List Slot
  begun S k = over S (map (shifted q by) S) k

  begun_long : (S : List Slot) (k : ℕ) → length (begun S k) ≡ length S
  begun_long S zero = refl
  begun_long [] (suc k) = refl
  begun_long (x ∷ S) (suc k) = ap suc (begun_long S k)

  begun_marks : (S : List Slot) (k : ℕ) → map mark_of (begun S k) ≡ map mark_of S
  begun_marks S zero = refl
  begun_marks [] (suc k) = refl
  begun_marks (x ∷ S) (suc k) = λ i. mark_shifted q by x i ∷ begun_marks S k i

  -- Each slot is one of S or a moved one.
  begun_each : (S : List Slot) (k i : ℕ) → FitSlot (get_or S i free) → FitSlot (get_or (map (shifted q by) S) i free) →
      FitSlot (get_or (begun S k) i free)
  begun_each S zero i old new = old
  begun_each [] (suc k) i old new = old
  begun_each (x ∷ S) (suc k) zero old new = new
  begun_each (x ∷ S) (suc k) (suc i) old new = begun_each S k i old new

  module _ {S : List Slot} {coords : List ℤ} {marks : List ℕ} (h : Shown S coords marks) (goal : Fit (map (shifted q by) S)) where
    begun_shown : (k : ℕ) {now : List ℤ} → now ≡ flat (begun S k) → Shown (begun S k) now marks
    begun_shown k e = record {
      fit = record { long = begun_long S k ∙ h.fit.long; each = λ i. begun_each S k i (h.fit.each i) (goal.each i) };
      coords_are = e;
      parts_are = h.parts_are ∙ sym (begun_marks S k);
    }

    -- The next slot, moved, is that of the moved list.
    next : (k : ℕ) → k < 64 → shifted q by (get_or (begun S k) k free) ≡ get_or (map (shifted q by) S) k free
    next k l =
        ap (shifted q by) (over_at S (map (shifted q by) S) k free (omega (arith, h.fit.long)) (omega (arith, goal.long)))
        ∙ sym (shifted_at q by S k)

    -- One slot more.
    pub begun_more : (k : ℕ) {mark : ℕ} {now after : List ℤ} → k < 64 → mark ≡ suc q → now ≡ flat (begun S k) →
        SlotMoved now marks k mark by after → after ≡ flat (begun S (k + 1))
    begun_more k l m e slot =
        slot.is (begun S k) q (begun_shown k e) m (subst (λ (x : Slot). FitSlot x) (sym (next k l)) (goal.each k))
        ∙ ap (λ (x : Slot). flat (set (begun S k) k x)) (next k l)
        ∙ ap flat (over_more S (map (shifted q by) S) k free (omega (arith, h.fit.long)) (omega (arith, goal.long)))
        ∙ ap (λ (n : ℕ). flat (begun S n)) (sym (add-one k))

    -- All of them.
    pub begun_all : (k : ℕ) → 64 ≤ k → begun S k ≡ map (shifted q by) S
    begun_all k l = over_all S (map (shifted q by) S) k (omega (arith, h.fit.long)) (omega (arith, goal.long))
