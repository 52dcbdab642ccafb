-- `reasons::changes::place_checked` meets its contract: 6, 7, 3, 1 and 2 come first, then 8. Assumes nothing.
use Rattle.std.proofs.Common.{◌≡◌, refl, sym, ◌∙◌, rules}
use Rattle.checks.specs.Told.{told_check, told_refusal}
use Rattle.reasons.proofs.Finding.{place_found}
use Rattle.reasons.proofs.changes.place_checked.Goals as goal

pub returns-in_err-placing_checked : goal.returns-in_err-placing_checked
returns-in_err-placing_checked c =
    let is : told_check c.from_residual.result ≡ told_refusal c.in_err-placing_checked.field-0.0 = search rules in
    place_found c.in_err-placing_checked.ensures (λ S e. is) (λ f. sym is ∙ f)

pub returns : goal.returns
returns c = place_found c.in_ok-placing_checked.ensures c.free_checked.ensures (λ f. refl)
