-- `plate::calls::place` meets its contract: where the checks find a reason the plate stays, and else the slot is filled. Assumes nothing.
use mathlib.Core.Path.{refl, sym}
use native.Mathlib.Omega.{arith}
use Rattle.slots.specs.Slots.{held}
use Rattle.slots.specs.Changes.{apply}
use Rattle.plate.specs.Histories.{run}
use Rattle.plate.proofs.Outcomes.{shown, change_refused, change_made}
use Rattle.plate.proofs.calls.place.Goals as goal

pub mark_for-requires : goal.mark_for-requires
mark_for-requires c = omega (arith, c.in-Ok.ensures.part_is_within refl)

pub changed-requires : goal.changed-requires
changed-requires c = (omega (arith, c.in-Ok.ensures.slot_is_within refl), (c.in-Ok.ensures.ready refl).long)

pub returns-in-Err : goal.returns-in-Err
returns-in-Err c = record {
  kept = λ before st. change_refused (run before) _ _ (sym (c.in-Err.ensures.rule _ st.parts)) c.refusal.ensures.1 c.refusal.ensures.0;
}

pub returns-in-Ok : goal.returns-in-Ok
unfolding apply
returns-in-Ok c = record {
  kept = λ before st.
      let found = c.in-Ok.ensures in
      change_made (run before) _ _ _ (sym (found.rule _ st.parts)) refl
      (c.changed.ensures.is (held _ _) (shown before st) (found.ready refl) c.mark_for.ensures refl);
}
