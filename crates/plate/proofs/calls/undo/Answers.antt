-- `plate::calls::undo` meets its contract: where the check finds a reason the plate stays, and else the latest change is taken back. Assumes nothing.
use mathlib.Core.Path.{refl, sym, ap, ◌∙◌}
use native.Mathlib.Omega.{arith}
use Rattle.plate.specs.Histories.{run}
use Rattle.reasons.specs.Findings.{undo_found}
use Rattle.plate.proofs.Outcomes.{refusal, undo_outcome, undo_ahead, undo_made}
use Rattle.plate.proofs.calls.undo.Goals as goal

pub overflow_sub-before : goal.overflow_sub-before
overflow_sub-before c =
    -- There is a change to take back.
    let some = undo_ahead _ (sym c.in-Ok.ensures) in
    omega (arith, some)

pub returns-in-Err : goal.returns-in-Err
returns-in-Err c = record {
  kept = λ before st. refusal _ (undo_outcome (run before) (ap undo_found (sym st.reach) ∙ sym c.in-Err.ensures)) c.refusal.ensures.1 c.refusal.ensures.0;
}

pub returns-in-Ok : goal.returns-in-Ok
returns-in-Ok c = record {
  kept = λ before st. undo_made _ before _ c.popped.result _ st (undo_ahead _ (sym c.in-Ok.ensures)) c.popped.ensures c.restored.ensures refl;
}
