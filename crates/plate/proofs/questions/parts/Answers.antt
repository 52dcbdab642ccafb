-- `plate::questions::parts` meets its contract: each way out tells what the checks of the two parts find there. Assumes nothing.
use Rattle.std.proofs.Common.{◌≡◌, refl, rules}
use Rattle.checks.specs.Told.{told_refusal}
use Rattle.predicate.specs.Told.{told_verdict}
use Rattle.plate.proofs.PartsLaws.{promised, by_checks}
use Rattle.plate.proofs.questions.parts.Goals as goal

pub returns-in_err-part_checked : goal.returns-in_err-part_checked
returns-in_err-part_checked c =
    let is : told_verdict c.from_residual.result ≡ told_refusal c.in_err-part_checked.field-0.0 = search rules in
    promised c.args.plate c.args.p c.args.q (λ S h. by_checks S _ _ c.in_err-part_checked.ensures refl refl refl is)

pub returns-in_err-part_checked-2 : goal.returns-in_err-part_checked-2
returns-in_err-part_checked-2 c =
    let is : told_verdict c.from_residual-in_err-part_checked-2.result ≡ told_refusal c.in_err-part_checked-2.field-0.0 = search rules in
    promised c.args.plate c.args.p c.args.q (λ S h. by_checks S _ _ c.in_ok-part_checked.ensures c.in_err-part_checked-2.ensures refl refl is)

pub returns-in_err-present_checked : goal.returns-in_err-present_checked
returns-in_err-present_checked c =
    let is : told_verdict c.from_residual-in_err-present_checked.result ≡ told_refusal c.in_err-present_checked.field-0.0 = search rules in
    promised c.args.plate c.args.p c.args.q
    (λ S h. by_checks S _ _ c.in_ok-part_checked.ensures c.in_ok-part_checked-2.ensures (c.in_err-present_checked.ensures S h.parts_are) refl is)

pub returns-in_err-present_checked-2 : goal.returns-in_err-present_checked-2
returns-in_err-present_checked-2 c =
    let is : told_verdict c.from_residual-in_err-present_checked-2.result ≡ told_refusal c.in_err-present_checked-2.field-0.0 = search rules in
    promised c.args.plate c.args.p c.args.q
    (λ S h.
    by_checks S _ _ c.in_ok-part_checked.ensures c.in_ok-part_checked-2.ensures (c.in_ok-present_checked.ensures S h.parts_are)
    (c.in_err-present_checked-2.ensures S h.parts_are) is)

pub returns : goal.returns
returns c =
    promised c.args.plate c.args.p c.args.q
    (λ S h.
    by_checks S _ _ c.in_ok-part_checked.ensures c.in_ok-part_checked-2.ensures (c.in_ok-present_checked.ensures S h.parts_are)
    (c.in_ok-present_checked-2.ensures S h.parts_are) (c.present_verdict.ensures S h))
