-- `plate::calls::lift` meets its contract: where the checks find a reason the plate stays, and else the slot is emptied. Assumes nothing.
use mathlib.Core.Path.{refl, sym}
use native.Mathlib.Omega.{arith}
use Rattle.slots.specs.Slots.{free}
use Rattle.slots.specs.Changes.{apply}
use Rattle.slots.proofs.Grids.{free_fits}
use Rattle.plate.specs.Histories.{run}
use Rattle.plate.proofs.Outcomes.{shown, change_refused, change_made}
use borrow.Author.Rules.{rules}
use Rattle.plate.proofs.calls.lift.Goals as goal

pub changed-requires : goal.changed-requires
changed-requires c = (omega (arith, c.in-Ok.ensures.slot_is_within refl), search rules)

pub returns-in-Err : goal.returns-in-Err
returns-in-Err c = record {
  kept = λ before st. change_refused (run before) _ _ (sym (c.in-Err.ensures.rule _ st.parts)) c.refusal.ensures.1 c.refusal.ensures.0;
}

pub returns-in-Ok : goal.returns-in-Ok
unfolding apply
returns-in-Ok c = record {
  kept = λ before st.
      change_made (run before) _ _ _ (sym (c.in-Ok.ensures.rule _ st.parts)) refl (c.changed.ensures.is free (shown before st) free_fits refl refl);
}
