-- `reasons::changes::lift_checked` meets its contract: 6 comes first, then 9. Assumes nothing.
use Rattle.std.proofs.Common.{◌≡◌, refl, sym, ◌∙◌, rules}
use Rattle.checks.specs.Told.{told_check, told_refusal}
use Rattle.reasons.proofs.Finding.{lift_found}
use Rattle.reasons.proofs.changes.lift_checked.Goals as goal

pub returns-in_err-slot_checked : goal.returns-in_err-slot_checked
returns-in_err-slot_checked c =
    let is : told_check c.from_residual.result ≡ told_refusal c.in_err-slot_checked.field-0.0 = search rules in
    lift_found c.in_err-slot_checked.ensures (λ S e. is) (λ f. sym is ∙ f)

pub returns : goal.returns
returns c = lift_found c.in_ok-slot_checked.ensures c.filled_checked.ensures (λ f. refl)
