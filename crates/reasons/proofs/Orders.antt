-- Which reason comes first, of each change. Assumes nothing.
use mathlib.Core.Path.{◌≡◌, refl, ap, ◌∙◌}
use mathlib.Core.Bool.{Bool, true, false, cond}
use mathlib.Core.List.{List}
use Prim.Native.Nat.{ℕ, ◌<◌, ◌≤◌}
use native.Mathlib.Omega.{arith}
use borrow.Author.Tests.{lt-ltb, le-ltb}
use lib.IntN.{ℤ}
use lib.ListN.{get_or, length}
use Rattle.checks.specs.Answers.{refused, Check, fine, ◌then◌}
use Rattle.slots.specs.Slots.{Slot, free, held, is_free, is_of}
use Rattle.slots.specs.Changes.{place, lift, shift, thrice}
use Rattle.shape.specs.Lists.{some, lowest}
use Rattle.slots.specs.Leaving.{leaves}
use Rattle.slots.specs.Arrays.{mark_of}
use Rattle.reasons.specs.Rules.{slot_free, change_checks}
use Rattle.reasons.proofs.Placing.{placing, place_order}

-- ---- place
free_yes : (x : Slot) → mark_of x ≡ 0 → is_free x ≡ true
free_yes free h = refl
free_yes (held p numbers) h = absurd (omega arith)

free_no : (x : Slot) → (mark_of x ≡ 0 → ⊥) → is_free x ≡ false
free_no free h = absurd (h refl)
free_no (held p numbers) h = refl

-- Where all but the last check of a place refuse nothing.
module _ (S : List Slot) (s q : ℕ) (numbers : List ℤ) (e : placing s q numbers ≡ fine) where
  last_check : change_checks S (place s q numbers) ≡ slot_free S s
  last_check = place_order S s q numbers ∙ ap (λ (c : Check). c then slot_free S s) e

  pub place_8 : (mark_of (get_or S s free) ≡ 0 → ⊥) → change_checks S (place s q numbers) ≡ refused 8 0 s
  place_8 h = last_check ∙ ap (λ (t : Bool). cond t fine (refused 8 0 s)) (free_no (get_or S s free) h)

  pub place_fine : mark_of (get_or S s free) ≡ 0 → change_checks S (place s q numbers) ≡ fine
  place_fine h = last_check ∙ ap (λ (t : Bool). cond t fine (refused 8 0 s)) (free_yes (get_or S s free) h)

-- ---- lift
module _ (S : List Slot) (s : ℕ) where
  pub lift_6 : 63 < s → change_checks S (lift s) ≡ refused 6 0 s
  unfolding change_checks
  lift_6 a = rw (lt-ltb 63 s a)

  pub lift_9 : s ≤ 63 → mark_of (get_or S s free) ≡ 0 → change_checks S (lift s) ≡ refused 9 0 s
  unfolding change_checks
  lift_9 a b = rw (le-ltb 63 s a, free_yes (get_or S s free) b)

  pub lift_fine : s ≤ 63 → (mark_of (get_or S s free) ≡ 0 → ⊥) → change_checks S (lift s) ≡ fine
  unfolding change_checks
  lift_fine a b = rw (le-ltb 63 s a, free_no (get_or S s free) b)

-- ---- shift
module _ (S : List Slot) (q : ℕ) (dx dy dz : ℤ) where
  pub shift_7 : 15 < q → change_checks S (shift q dx dy dz) ≡ refused 7 0 q
  unfolding change_checks
  shift_7 a = rw (lt-ltb 15 q a)

  pub shift_10 : q ≤ 15 → some (is_of q) S ≡ false → change_checks S (shift q dx dy dz) ≡ refused 10 0 q
  unfolding change_checks
  shift_10 a b = rw (le-ltb 15 q a, b)

  pub shift_11 : q ≤ 15 → some (is_of q) S ≡ true → lowest (leaves q (thrice dx dy dz)) S < length S →
      change_checks S (shift q dx dy dz) ≡ refused 11 0 (lowest (leaves q (thrice dx dy dz)) S)
  unfolding change_checks
  shift_11 a b c = rw (le-ltb 15 q a, b, lt-ltb (lowest (leaves q (thrice dx dy dz)) S) (length S) c)

  pub shift_fine : q ≤ 15 → some (is_of q) S ≡ true → length S ≤ lowest (leaves q (thrice dx dy dz)) S →
      change_checks S (shift q dx dy dz) ≡ fine
  unfolding change_checks
  shift_fine a b c = rw (le-ltb 15 q a, b, le-ltb (lowest (leaves q (thrice dx dy dz)) S) (length S) c)
