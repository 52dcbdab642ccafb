-- Coordinates on the grid: all those of fit slots, and each slot's part of any that are. Assumes nothing.
use mathlib.Core.Path.{◌≡◌, sym, ap, ◌∙◌}
use mathlib.Core.Bool.{Bool, true, false, cond}
use mathlib.Core.List.{List, [], ◌∷◌, ◌++◌}
use Prim.Native.Nat.{ℕ, zero, suc, ◌+◌, ◌-◌, ◌*◌, ◌<◌}
use native.Mathlib.Omega.{arith}
use borrow.Rule.Slice.PartMut.{put_mid}
use lib.IntN.{ℤ, pos}
use lib.ListN.{get_or, length, take, drop, replicate, length-replicate}
use Rattle.exact.specs.Grid.{Ready}
use Rattle.checks.specs.Grid.{all_on}
use Rattle.checks.proofs.CheckLaws.{OnGrid, on_take, on_drop, on_all, all_on_grid_law}
use Rattle.slots.specs.Slots.{Slot, free}
use Rattle.slots.specs.Arrays.{numbers_of, flat}
use Rattle.slots.specs.Showing.{FitSlot, nine_at, Shown}
use Rattle.slots.proofs.Arrays.{length_put}

-- Lists on the grid stay so end to end, and zeros are on it.
on_append : (a b : List ℤ) → OnGrid a → OnGrid b → OnGrid (a ++ b)
on_append [] b g h k = h k
on_append (x ∷ a) b g h zero = g 0
on_append (x ∷ a) b g h (suc k) = on_append a b (λ i. g (suc i)) h k

on_zeros : (n : ℕ) → OnGrid (replicate n (pos 0))
on_zeros zero k = omega arith
on_zeros (suc n) zero = omega arith
on_zeros (suc n) (suc k) = on_zeros n k

pub zeros_ready : (n : ℕ) → Ready n (replicate n (pos 0))
zeros_ready n = record { long = length-replicate n (pos 0); each = on_zeros n }

-- An empty slot is fit.
pub free_fits : FitSlot free
free_fits = zeros_ready 9

on_slots : (S : List Slot) → ((i : ℕ) → FitSlot (get_or S i free)) → OnGrid (flat S)
unfolding flat
on_slots [] f k = omega arith
on_slots (x ∷ S) f k = on_append (numbers_of x) (flat S) (f 0).each (on_slots S (λ i. f (suc i))) k

-- Arrays that show slots have their coordinates on the grid.
shown_on : {S : List Slot} {coords : List ℤ} {parts : List ℕ} → Shown S coords parts → all_on coords ≡ true
shown_on {S} h = ap all_on h.coords_are ∙ on_all (flat S) (on_slots S h.fit.each)

pub never_off : {S : List Slot} {coords : List ℤ} {parts : List ℕ} → Shown S coords parts → all_on coords ≡ false → ⊥
never_off h e = omega (arith, ap {B = ℕ} (λ (b : Bool). cond b 1 0) (sym (shown_on h) ∙ e))

-- The nine numbers of a slot, lent to a test.
pub nine_ready : (i : ℕ) (coords : List ℤ) {lent : List ℤ} → lent ≡ nine_at i coords → length lent ≡ 9 → all_on coords ≡ true → Ready 9 lent
nine_ready i coords is long on = record {
  long = long;
  each = rw is (on_take 9 (drop (9 * i) coords) (on_drop (9 * i) coords (all_on_grid_law coords on)));
}

-- Nine numbers on the grid, put in the place of nine others of a list that is.
pub put_ready : (i : ℕ) (list nine : List ℤ) → i < 64 → Ready 576 list → Ready 9 nine → Ready 576 (put_mid (9 * i) (9 * i + 9 - 9 * i) list nine)
put_ready i list nine h ready new = record {
  long = length_put i list nine h ready.long new.long;
  each = on_append (take (9 * i) list) (nine ++ drop (9 * i + 9 - 9 * i) (drop (9 * i) list)) (on_take (9 * i) list ready.each)
      (on_append nine (drop (9 * i + 9 - 9 * i) (drop (9 * i) list)) new.each (on_drop (9 * i + 9 - 9 * i) (drop (9 * i) list) (on_drop (9 * i) list ready.each)));
}
