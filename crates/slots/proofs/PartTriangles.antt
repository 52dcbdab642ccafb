-- The triangles of a part, slot by slot, and written one after the other to the front of a list. Assumes nothing.
use mathlib.Core.Path.{◌≡◌, refl, sym, ap, ◌∙◌}
use mathlib.Core.Bool.{Bool, true, false, cond}
use mathlib.Core.List.{List, [], ◌∷◌, ◌++◌, append-nil}
use Prim.Native.Nat.{ℕ, zero, suc, ◌+◌, ◌-◌, ◌*◌, ◌<◌, ◌≤◌}
use native.Mathlib.Nat.{mul-le-mul_left}
use native.Mathlib.Numerals.{add-one}
use native.Mathlib.Omega.{arith}
use borrow.Author.Tests.{eq-eqb, ne_eqb}
use borrow.Rule.Slice.PartMut.{put_mid}
use lib.Dec.{eqb}
use lib.IntN.{ℤ}
use lib.ListN.{length, get_or, take}
use lib.Seq.{take_all}
use Rattle.algebra.proofs.Parts.{put_here, put_before}
use Rattle.shape.specs.Points.{Shape}
use Rattle.shape.specs.TriangleLists.{triangles_in}
use Rattle.shape.proofs.TriangleLists.{triangles_more}
use Rattle.slots.specs.Slots.{Slot, free, held, triangle, is_of}
use Rattle.slots.specs.Parts.{triangles_of}
use Rattle.slots.specs.Arrays.{numbers_of}
use Rattle.exact.specs.Grid.{Ready}
use Rattle.slots.specs.Showing.{nine_at, Shown, SlotGathered}
use Rattle.slots.proofs.Clashing.{mark_of_law}
use Rattle.slots.proofs.Arrays.{mark_is, numbers_are}
use Rattle.slots.proofs.Grids.{put_ready}

-- One slot more: its triangle, if it is of the part.
abbrev own : ℕ → Slot → List Shape
own q x = cond (is_of q x) (triangle (numbers_of x) ∷ []) []

of_take : (q : ℕ) (S : List Slot) (i : ℕ) → i < length S → triangles_of q (take (suc i) S) ≡ triangles_of q (take i S) ++ own q (get_or S i free)
of_take q [] i h = absurd (omega arith)
of_take q (free ∷ S) zero h = refl
of_take q (held p s ∷ S) zero h = refl
of_take q (free ∷ S) (suc i) h = of_take q S i (omega arith)
of_take q (held p s ∷ S) (suc i) h = by_part (eqb p q) (of_take q S i (omega arith))
  where
    by_part : (b : Bool) → triangles_of q (take (suc i) S) ≡ triangles_of q (take i S) ++ own q (get_or S i free) →
        cond b (triangle s ∷ triangles_of q (take (suc i) S)) (triangles_of q (take (suc i) S))
        ≡ cond b (triangle s ∷ triangles_of q (take i S)) (triangles_of q (take i S)) ++ own q (get_or S i free)
    by_part true e = ap (λ (l : List Shape). triangle s ∷ l) e
    by_part false e = e

module _ {S : List Slot} {coords : List ℤ} {parts : List ℕ} (h : Shown S coords parts) (q i : ℕ) (short : i < 64) where
  -- Whether the slot is of the part, by its mark.
  own_mark : eqb (get_or parts i 0) (suc q) ≡ is_of q (get_or S i free)
  own_mark = ap (λ (n : ℕ). eqb n (suc q)) (mark_is h i) ∙ mark_of_law q (get_or S i free)

  of_next : triangles_of q (take (i + 1) S) ≡ triangles_of q (take i S) ++ own q (get_or S i free)
  of_next = ap (λ (k : ℕ). triangles_of q (take k S)) (add-one i) ∙ of_take q S i (omega (arith, h.fit.long))

  -- A slot of another mark adds nothing.
  pub gathered_pass : {l : List Shape} → (get_or parts i 0 ≡ suc q → ⊥) → l ≡ triangles_of q (take i S) → l ≡ triangles_of q (take (i + 1) S)
  gathered_pass other e =
      e ∙ sym (append-nil (triangles_of q (take i S)))
      ∙ ap (λ (b : Bool). triangles_of q (take i S) ++ cond b (triangle (numbers_of (get_or S i free)) ∷ []) []) (sym (ne_eqb (get_or parts i 0) (suc q) other) ∙ own_mark)
      ∙ sym of_next

  -- One of the part adds its triangle.
  pub gathered_more : {l : List Shape} → get_or parts i 0 ≡ suc q → l ≡ triangles_of q (take i S) ++ (triangle (numbers_of (get_or S i free)) ∷ []) →
      l ≡ triangles_of q (take (i + 1) S)
  gathered_more same e =
      e
      ∙ ap (λ (b : Bool). triangles_of q (take i S) ++ cond b (triangle (numbers_of (get_or S i free)) ∷ []) []) (sym (eq-eqb (get_or parts i 0) (suc q) same) ∙ own_mark)
      ∙ sym of_next

pub gathered_none : (numbers : List ℤ) (q : ℕ) (S : List Slot) → triangles_in 0 numbers ≡ triangles_of q (take 0 S)
unfolding triangles_in
gathered_none numbers q S = refl

pub gathered_all : {S : List Slot} {coords : List ℤ} {parts : List ℕ} → Shown S coords parts → (q i : ℕ) → 64 ≤ i → triangles_of q (take i S) ≡ triangles_of q S
gathered_all {S} h q i l = ap (triangles_of q) (take_all i S (omega (arith, h.fit.long)))

-- ---- written to a list
pub triangle_put : (n : ℕ) (list nine : List ℤ) → 9 * n ≤ length list → length nine ≡ 9 →
    triangles_in (n + 1) (put_mid (9 * n) (9 * n + 9 - 9 * n) list nine) ≡ triangles_in n list ++ (triangle nine ∷ [])
triangle_put n list nine fits long =
    triangles_more n list (put_mid (9 * n) (9 * n + 9 - 9 * n) list nine)
    (λ j k. put_before (9 * j) 9 (9 * n) (9 * n + 9 - 9 * n) list nine (omega (arith, mul-le-mul_left 9 k)) fits)
    (put_here (9 * n) 9 (9 * n + 9 - 9 * n) list nine fits long)

-- ---- one slot
-- A slot of another mark adds nothing to the list, one of this mark its triangle.
pub gather_other : (coords : List ℤ) (marks : List ℕ) (i mark : ℕ) (list : List ℤ) (many : ℕ) → i < 64 → Ready 576 list → (get_or marks i 0 ≡ mark → ⊥) →
    SlotGathered coords marks i mark list many list many
gather_other coords marks i mark list many inside ready other = record {
  most = omega arith;
  ready = ready;
  is = λ S q h e l. gathered_pass h q i inside (λ same. other (same ∙ sym e)) l;
}

pub gather_own : (coords : List ℤ) (marks : List ℕ) (i mark : ℕ) (list : List ℤ) (many : ℕ) {nine : List ℤ} → i < 64 → many ≤ i → Ready 576 list → Ready 9 nine
    → nine ≡ nine_at i coords → get_or marks i 0 ≡ mark → SlotGathered coords marks i mark list many (put_mid (9 * many) (9 * many + 9 - 9 * many) list nine) (many + 1)
gather_own coords marks i mark list many {nine} inside few ready good is same = record {
  most = omega arith;
  ready = put_ready many list nine (omega (arith, few, inside)) ready good;
  is = λ S q h e l.
      let new : nine ≡ numbers_of (get_or S i free) = is ∙ numbers_are h i inside in
      gathered_more h q i inside (same ∙ e)
      (triangle_put many list nine (omega (arith, few, inside, ready.long)) good.long ∙ (λ k. l k ++ (triangle (new k) ∷ [])));
}
