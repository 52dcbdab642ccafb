-- Slots in the flat arrays: what stands at a slot, and a slot written anew. Assumes nothing.
use mathlib.Core.Path.{◌≡◌, refl, sym, ap, ◌∙◌}
use mathlib.Core.List.{List, [], ◌∷◌, ◌++◌, map, append_assoc}
use Prim.Native.Nat.{ℕ, zero, suc, ◌+◌, ◌-◌, ◌*◌, ◌<◌, ◌≤◌}
use native.Mathlib.Omega.{arith}
use borrow.Rule.Slice.PartMut.{put_mid, same_len_mid}
use lib.IntN.{ℤ}
use lib.ListN.{set, get_or, length, take, drop, length-append, length-set, get_or-map}
use lib.Seq.{split_at, set_split, take_at, drop_at}
use Rattle.algebra.proofs.Parts.{length_lent}
use Rattle.slots.specs.Slots.{Slot, free}
use Rattle.slots.specs.Arrays.{numbers_of, mark_of, flat}
use Rattle.slots.specs.Showing.{FitSlot, Fit, nine_at, Shown}

-- All slots of a list are fit. (Past the end stands an empty one.)
abbrev AllFit : List Slot → Type 0
AllFit S = (i : ℕ) → FitSlot (get_or S i free)

flat_append : (A B : List Slot) → flat (A ++ B) ≡ flat A ++ flat B
unfolding flat
flat_append [] B = refl
flat_append (x ∷ A) B =
    ap (λ (l : List ℤ). numbers_of x ++ l) (flat_append A B) ∙ sym (append_assoc (numbers_of x) (flat A) (flat B))

-- The first i slots have nine times as many numbers.
flat_front : (S : List Slot) (i : ℕ) → AllFit S → i ≤ length S → length (flat (take i S)) ≡ 9 * i
unfolding flat
flat_front S zero f h = omega arith
flat_front [] (suc i) f h = absurd (omega arith)
flat_front (x ∷ S) (suc i) f h = simp length-append (omega (arith, (f 0).long, flat_front S i (λ k. f (suc k)) (omega arith)))

module _ (S : List Slot) (i : ℕ) (fit : AllFit S) (h : i < length S) where
  split : (x : Slot) → flat (take i S ++ x ∷ drop (suc i) S) ≡ flat (take i S) ++ (numbers_of x ++ flat (drop (suc i) S))
  unfolding flat
  split x = flat_append (take i S) (x ∷ drop (suc i) S)

  whole : flat S ≡ flat (take i S) ++ (numbers_of (get_or S i free) ++ flat (drop (suc i) S))
  whole = ap flat (split_at S i free h) ∙ split (get_or S i free)

  front : length (flat (take i S)) ≡ 9 * i
  front = flat_front S i fit (omega arith)

  -- A slot's numbers stand at nine times its index.
  flat_read : nine_at i (flat S) ≡ numbers_of (get_or S i free)
  flat_read =
      ap (λ (l : List ℤ). take 9 (drop (9 * i) l)) whole
      ∙ ap (take 9) (drop_at (flat (take i S)) (numbers_of (get_or S i free) ++ flat (drop (suc i) S)) (9 * i) front)
      ∙ take_at (numbers_of (get_or S i free)) (flat (drop (suc i) S)) 9 (fit i).long

  -- Nine numbers written there are the slot anew.
  flat_write : (x : Slot) (n : ℕ) → n ≡ 9 → put_mid (9 * i) n (flat S) (numbers_of x) ≡ flat (set S i x)
  flat_write x n e =
      let before = flat (take i S) in
      let old = numbers_of (get_or S i free) in
      let behind = flat (drop (suc i) S) in
      (λ k. take (9 * i) (whole k) ++ (numbers_of x ++ drop (e k) (drop (9 * i) (whole k))))
      ∙ (λ k. take_at before (old ++ behind) (9 * i) front k ++ (numbers_of x ++ drop 9 (drop_at before (old ++ behind) (9 * i) front k)))
      ∙ ap (λ (l : List ℤ). before ++ (numbers_of x ++ l)) (drop_at old behind 9 (fit i).long)
      ∙ sym (split x)
      ∙ sym (ap flat (set_split S i x h))

mark_write : (S : List Slot) (i : ℕ) (x : Slot) → set (map mark_of S) i (mark_of x) ≡ map mark_of (set S i x)
mark_write [] i x = refl
mark_write (y ∷ S) zero x = refl
mark_write (y ∷ S) (suc i) x = ap (λ (l : List ℕ). mark_of y ∷ l) (mark_write S i x)

-- Nine numbers put back at a slot leave as many coordinates.
pub length_put : (i : ℕ) (coords numbers : List ℤ) → i < 64 → length coords ≡ 576 → length numbers ≡ 9 →
    length (put_mid (9 * i) (9 * i + 9 - 9 * i) coords numbers) ≡ 576
length_put i coords numbers h long nine =
    same_len_mid (9 * i) (9 * i + 9 - 9 * i) coords numbers (nine ∙ sym (length_lent (9 * i) 9 coords (omega arith))) ∙ long

-- A fit slot among fit slots.
pub set_fits : (S : List Slot) (s : ℕ) (x : Slot) → Fit S → FitSlot x → Fit (set S s x)
set_fits S s x fit f = record { long = length-set S s x ∙ fit.long; each = λ i. at S s i (fit.each i) }
  where
    at : (S : List Slot) (s i : ℕ) → FitSlot (get_or S i free) → FitSlot (get_or (set S s x) i free)
    at [] s i g = g
    at (y ∷ S) zero zero g = f
    at (y ∷ S) zero (suc i) g = g
    at (y ∷ S) (suc s) zero g = g
    at (y ∷ S) (suc s) (suc i) g = at S s i g

-- ---- arrays that show slots
module _ {S : List Slot} {coords : List ℤ} {parts : List ℕ} (h : Shown S coords parts) where
  pub mark_is : (i : ℕ) → get_or parts i 0 ≡ mark_of (get_or S i free)
  mark_is i = ap (λ (l : List ℕ). get_or l i 0) h.parts_are ∙ get_or-map mark_of S i free

  pub numbers_are : (i : ℕ) → i < 64 → nine_at i coords ≡ numbers_of (get_or S i free)
  numbers_are i l = ap (nine_at i) h.coords_are ∙ flat_read S i h.fit.each (omega (arith, h.fit.long))

  -- The numbers of a slot, written there.
  pub coords_written : (i : ℕ) (x : Slot) {numbers : List ℤ} (n : ℕ) → i < 64 → n ≡ 9 → numbers ≡ numbers_of x →
      put_mid (9 * i) n coords numbers ≡ flat (set S i x)
  coords_written i x n l e f =
      (λ k. put_mid (9 * i) n (h.coords_are k) (f k)) ∙ flat_write S i h.fit.each (omega (arith, h.fit.long)) x n e

  -- With the mark too, the arrays show the slot anew.
  pub write_shown : (i : ℕ) (x : Slot) {mark : ℕ} {coords' : List ℤ} → FitSlot x → mark ≡ mark_of x → coords' ≡ flat (set S i x) →
      Shown (set S i x) coords' (set parts i mark)
  write_shown i x f m e = record {
    fit = set_fits S i x h.fit f;
    coords_are = e;
    parts_are = (λ k. set (h.parts_are k) i (m k)) ∙ mark_write S i x;
  }
