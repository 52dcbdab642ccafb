-- `plate::calls::shift` meets its contract: where the checks find a reason the plate stays, and else the part is moved. Assumes nothing.
use mathlib.Core.Path.{◌≡◌, refl, sym, ◌∙◌, subst}
use mathlib.Core.List.{List}
use native.Mathlib.Omega.{arith}
use lib.IntN.{ℤ}
use mir.Facts.{to_z-of_z}
use Rattle.checks.specs.Answers.{fine}
use Rattle.checks.specs.Told.{told_refusal}
use Rattle.slots.specs.Changes.{shift, thrice, apply}
use Rattle.keeping.specs.Steps.{Slid}
use Rattle.reasons.specs.Rules.{change_checks}
use Rattle.plate.specs.Histories.{slots_of, run}
use Rattle.plate.proofs.Fits.{change_fits}
use Rattle.plate.proofs.Outcomes.{shown, change_refused, change_made}
use Rattle.plate.proofs.calls.shift.Goals as goal

pub mark_for-requires : goal.mark_for-requires
mark_for-requires c = omega (arith, c.in-Ok.ensures.part_is_within refl)

-- The steps as they are stored are those that were given, and so what was found is what the rule finds.
pub returns-in-Err : goal.returns-in-Err
returns-in-Err c = record {
  kept = λ before st.
      let a = c.args in
      let S = slots_of (run before) in
      let found : told_refusal c.in-Err.why ≡ change_checks S (shift a.part a.dx a.dy a.dz) =
      c.in-Err.ensures.rule S (shown before st).slots
      ∙ (λ i. change_checks S (shift a.part (to_z-of_z c.ranges.dx i) (to_z-of_z c.ranges.dy i) (to_z-of_z c.ranges.dz i))) in
      change_refused (run before) _ _ (sym found) c.refusal.ensures.1 c.refusal.ensures.0;
}

pub returns-in-Ok : goal.returns-in-Ok
unfolding apply
returns-in-Ok c = record {
  kept = λ before st.
      let a = c.args in
      let S = slots_of (run before) in
      let h = shown before st in
      let by : c.thrice.result ≡ thrice a.dx a.dy a.dz =
      c.thrice.ensures ∙ (λ i. thrice (to_z-of_z c.ranges.dx i) (to_z-of_z c.ranges.dy i) (to_z-of_z c.ranges.dz i)) in
      let found : fine ≡ change_checks S (shift a.part a.dx a.dy a.dz) =
      c.in-Ok.ensures.rule S h.slots
      ∙ (λ i. change_checks S (shift a.part (to_z-of_z c.ranges.dx i) (to_z-of_z c.ranges.dy i) (to_z-of_z c.ranges.dz i))) in
      let slid = subst (λ (m : List ℤ). Slid a.plate c.mark_for.result m c.slid.result) by c.slid.ensures in
      change_made (run before) _ _ _ (sym found) refl
      (slid.is a.part h c.mark_for.ensures (change_fits S (shift a.part a.dx a.dy a.dz) h.slots.fit (sym found)));
}
