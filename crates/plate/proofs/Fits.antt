-- What holds of every history that calls made: how far its reach goes, and that the slots after each of its changes are fit. Assumes nothing.
use mathlib.Core.Path.{◌≡◌, refl, sym, subst}
use mathlib.Core.List.{List, [], ◌∷◌}
use Prim.Native.Nat.{ℕ, zero, suc, ◌+◌, ◌≤◌}
use native.Mathlib.Omega.{arith}
use lib.IntN.{ℤ}
use lib.ListN.{get_or, length, drop, replicate, length-drop}
use lib.Seq.{drop-drop, drop-nil}
use Rattle.checks.specs.Answers.{served, refused, Check, fine, ◌then◌}
use Rattle.checks.proofs.AnswerLaws.{then_fine}
use Rattle.slots.specs.Slots.{Slot, free, held}
use Rattle.slots.specs.Changes.{Change, place, lift, shift, thrice, apply, replay}
use Rattle.shape.specs.Lists.{lowest}
use Rattle.slots.specs.Leaving.{leaves}
use Rattle.slots.specs.Showing.{FitSlot, Fit}
use Rattle.slots.proofs.Sliding.{part_fits}
use Rattle.slots.proofs.Arrays.{set_fits}
use Rattle.slots.proofs.Grids.{free_fits}
use Rattle.keeping.proofs.Past.{long}
use Rattle.reasons.specs.Rules.{part_within, part_present, part_stays, change_checks}
use Rattle.plate.specs.Histories.{History, slots_of, Call, change, undo, made, taken_back, outcome, next, run}
use Rattle.reasons.proofs.Placing.{not_above, place_passes, placed_ready}

pub record Sound (h : History) : Type 0 where
  pub near : h.reach ≤ 32
  pub within : h.reach ≤ length h.past
  pub fits : (n : ℕ) → Fit (replay (drop n h.past))

-- ---- changes that the checks pass
shift_stays : (S : List Slot) (q : ℕ) (dx dy dz : ℤ) → change_checks S (shift q dx dy dz) ≡ fine →
    length S ≤ lowest (leaves q (thrice dx dy dz)) S
unfolding change_checks
shift_stays S q dx dy dz e =
    let by = thrice dx dy dz in
    let low = lowest (leaves q by) S in
    let after_7 = (then_fine (part_within 0 q) (part_present 0 S q then part_stays S q by) e).1 in
    not_above (length S) low 11 0 low (then_fine (part_present 0 S q) (part_stays S q by) after_7).1

pub change_fits : (S : List Slot) (c : Change) → Fit S → change_checks S c ≡ fine → Fit (apply S c)
unfolding apply
change_fits S (place s q numbers) fit e =
    set_fits S s (held q numbers) fit (placed_ready s q numbers (place_passes S s q numbers e).0)
change_fits S (lift s) fit e = set_fits S s free fit free_fits
change_fits S (shift q dx dy dz) fit e = part_fits S q dx dy dz fit (shift_stays S q dx dy dz e)

-- ---- the calls
made_sound : (h : History) (c : Change) → Sound h → Fit (apply (slots_of h) c) → Sound (made h c)
unfolding replay
made_sound h c a fit = record { near = omega arith; within = omega arith; fits = each }
  where
    each : (n : ℕ) → Fit (replay (drop n (c ∷ h.past)))
    each zero = fit
    each (suc n) = a.fits n

back_sound : (h : History) (k : ℕ) → h.reach ≡ k → Sound h → Sound (next h (taken_back h.past k))
back_sound h zero e a = a
back_sound h (suc k) e a = record {
  near = omega arith;
  within = simp length-drop (omega arith);
  fits = λ n. subst (λ (l : List Change). Fit (replay l)) (sym (drop-drop n 1 h.past)) (a.fits (1 + n));
}

step_sound : (h : History) (c : Call) → Sound h → Sound (next h (outcome h c))
unfolding outcome
step_sound h (change c) a = by_check (change_checks (slots_of h) c) refl
  where
    by_check : (found : Check) → change_checks (slots_of h) c ≡ found → Sound (next h (found then served (made h c)))
    by_check (served u) e = made_sound h c a (change_fits (slots_of h) c (a.fits 0) e)
    by_check (refused number side spot) e = a
step_sound h undo a = back_sound h h.reach refl a

start_fits : Fit (replay [])
unfolding replay
start_fits = record { long = long []; each = none 64 }
  where
    none : (n i : ℕ) → FitSlot (get_or (replicate n free) i free)
    none zero i = free_fits
    none (suc n) zero = free_fits
    none (suc n) (suc i) = none n i

pub sound : (calls : List Call) → Sound (run calls)
unfolding run
sound [] = record {
  near = omega arith;
  within = omega arith;
  fits = λ n. subst (λ (l : List Change). Fit (replay l)) (sym (drop-nil n)) start_fits;
}
sound (c ∷ before) = step_sound (run before) c (sound before)
