-- A part moved: its triangles, which of them stay on the grid, and the same move backwards. Assumes nothing.
use mathlib.Core.Path.{◌≡◌, refl, ap, ◌∙◌}
use mathlib.Core.Bool.{Bool, true, false, not, cond}
use mathlib.Core.List.{List, [], ◌∷◌, map}
use Prim.Native.Nat.{ℕ, suc, ◌≤◌}
use native.Mathlib.Omega.{arith}
use borrow.Author.Tests.{eq-eqb, ltb-false, ltb-true, ne_eqb, not-false}
use lib.Dec.{eqb, ltb}
use lib.IntN.{ℤ, ◌+ℤ◌}
use lib.ListN.{get_or, length, length-map, get_or-eq_default, get_or-map}
use Rattle.shape.specs.Points.{coord, moved, moved_all}
use Rattle.shape.proofs.Trading.{coord_moved}
use Rattle.exact.specs.Grid.{Ready}
use Rattle.checks.specs.Grid.{all_on}
use Rattle.checks.proofs.CheckLaws.{all_on_grid_law}
use Rattle.moving.specs.Moves.{steps}
use Rattle.moving.proofs.MoveLaws.{length_moved, moved_back}
use Rattle.slots.specs.Slots.{Slot, free, held, triangle}
use Rattle.slots.specs.Changes.{thrice, shifted}
use Rattle.shape.specs.Lists.{lowest}
use Rattle.slots.specs.Leaving.{leaves}
use Rattle.slots.specs.Arrays.{numbers_of, mark_of}
use Rattle.slots.specs.Showing.{FitSlot, Fit}
use Rattle.shape.proofs.ListLaws.{below_lowest}

-- ---- one triangle
-- Where its nine numbers move by the steps, its corners move by the vector.
pub moved_triangle : (dx dy dz : ℤ) (numbers : List ℤ) →
    triangle (moved (thrice dx dy dz) numbers) ≡ moved_all (dx ∷ dy ∷ dz ∷ []) (triangle numbers)
moved_triangle dx dy dz numbers =
    λ i. (at 0 i ∷ at 1 i ∷ at 2 i ∷ []) ∷ (at 3 i ∷ at 4 i ∷ at 5 i ∷ []) ∷ (at 6 i ∷ at 7 i ∷ at 8 i ∷ []) ∷ []
  where
    at : (k : ℕ) → coord k (moved (thrice dx dy dz) numbers) ≡ coord k (thrice dx dy dz) +ℤ coord k numbers
    at k = coord_moved k (thrice dx dy dz) numbers

-- Where its numbers stay on the grid, they are nine on the grid again.
moved_ready : (dx dy dz : ℤ) (numbers : List ℤ) → length numbers ≡ 9 → all_on (moved (thrice dx dy dz) numbers) ≡ true →
    Ready 9 (moved (thrice dx dy dz) numbers)
moved_ready dx dy dz numbers long on = record {
  long = length_moved (thrice dx dy dz) numbers (omega arith) ∙ long;
  each = all_on_grid_law (moved (thrice dx dy dz) numbers) on;
}

-- ---- one slot
module _ (q : ℕ) (by : List ℤ) where
  -- of another part, or empty
  pub shifted_other : (x : Slot) → (mark_of x ≡ suc q → ⊥) → shifted q by x ≡ x
  shifted_other free h = refl
  shifted_other (held p numbers) h = rw (ne_eqb p q (λ e. h (ap suc e)))

  pub leaves_other : (x : Slot) → (mark_of x ≡ suc q → ⊥) → leaves q by x ≡ false
  leaves_other free h = refl
  leaves_other (held p numbers) h = rw (ne_eqb p q (λ e. h (ap suc e)))

  -- of the part
  shifted_held : (p : ℕ) (numbers : List ℤ) → mark_of (held p numbers) ≡ suc q →
      shifted q by (held p numbers) ≡ held p (moved by numbers)
  shifted_held p numbers h = rw (eq-eqb p q (omega arith))

  pub shifted_own : (x : Slot) → mark_of x ≡ suc q → numbers_of (shifted q by x) ≡ moved by (numbers_of x)
  shifted_own free h = absurd (omega arith)
  shifted_own (held p numbers) h = ap numbers_of (shifted_held p numbers h)

  pub leaves_own : (x : Slot) → mark_of x ≡ suc q → leaves q by x ≡ not (all_on (moved by (numbers_of x)))
  leaves_own free h = absurd (omega arith)
  leaves_own (held p numbers) h = rw (eq-eqb p q (omega arith))

  -- moved back
  slot_back : (x : Slot) → FitSlot x → length by ≡ 9 → shifted q (steps true by) (shifted q by x) ≡ x
  slot_back free f long = refl
  slot_back (held p numbers) f long = by_test (eqb p q) refl
    where
      by_test : (t : Bool) → eqb p q ≡ t →
          shifted q (steps true by) (cond t (held p (moved by numbers)) (held p numbers)) ≡ held p numbers
      by_test true e = rw e (ap (held p) (moved_back by numbers (omega (arith, f.long))))
      by_test false e = rw e

  pub shifted_at : (S : List Slot) (i : ℕ) → get_or (map (shifted q by) S) i free ≡ shifted q by (get_or S i free)
  shifted_at S i = get_or-map (shifted q by) S i free

  -- ---- all slots
  pub part_back : (S : List Slot) → ((i : ℕ) → FitSlot (get_or S i free)) → length by ≡ 9 →
      map (shifted q (steps true by)) (map (shifted q by) S) ≡ S
  part_back [] fits long = refl
  part_back (x ∷ S) fits long = λ i. slot_back x (fits 0) long i ∷ part_back S (λ k. fits (suc k)) long i

slot_stays : (q : ℕ) (dx dy dz : ℤ) (x : Slot) → FitSlot x → leaves q (thrice dx dy dz) x ≡ false →
    FitSlot (shifted q (thrice dx dy dz) x)
slot_stays q dx dy dz free f on = f
slot_stays q dx dy dz (held p numbers) f on = by_test (eqb p q) on
  where
    by_test : (t : Bool) → cond t (not (all_on (moved (thrice dx dy dz) numbers))) false ≡ false →
        FitSlot (cond t (held p (moved (thrice dx dy dz) numbers)) (held p numbers))
    by_test true e = moved_ready dx dy dz numbers f.long (not-false (all_on (moved (thrice dx dy dz) numbers)) e)
    by_test false e = f

-- Where no slot leaves the grid, the slots are fit again.
pub part_fits : (S : List Slot) (q : ℕ) (dx dy dz : ℤ) → Fit S → length S ≤ lowest (leaves q (thrice dx dy dz)) S →
    Fit (map (shifted q (thrice dx dy dz)) S)
part_fits S q dx dy dz fit low = record {
  long = length-map S (shifted q (thrice dx dy dz)) ∙ fit.long;
  each = λ i.
      rw (shifted_at q (thrice dx dy dz) S i) (slot_stays q dx dy dz (get_or S i free) (fit.each i) (stays i (ltb i (length S)) refl));
}
  where
    stays : (i : ℕ) (t : Bool) → ltb i (length S) ≡ t → leaves q (thrice dx dy dz) (get_or S i free) ≡ false
    stays i true e = below_lowest (leaves q (thrice dx dy dz)) free S i (omega (arith, ltb-true i (length S) e))
    stays i false e = ap (leaves q (thrice dx dy dz)) (get_or-eq_default S free (ltb-false i (length S) e))
