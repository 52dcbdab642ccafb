-- `reasons::changes::shift_checked` meets its contract: 7, 10 and 11, in this order. Assumes nothing.
use Rattle.std.proofs.Common.{◌≡◌, refl, sym, ap, ◌∙◌, rules}
use mir.Facts.{to_z-of_z}
use Rattle.checks.specs.Answers.{Check, ◌then◌}
use Rattle.checks.specs.Told.{told_check, told_refusal}
use Rattle.slots.specs.Changes.{thrice}
use Rattle.reasons.specs.Rules.{part_stays}
use Rattle.reasons.proofs.Finding.{shift_found}
use Rattle.reasons.proofs.changes.shift_checked.Goals as goal

pub returns-in_err-part_checked : goal.returns-in_err-part_checked
returns-in_err-part_checked c =
    let is : told_check c.from_residual.result ≡ told_refusal c.in_err-part_checked.field-0.0 = search rules in
    shift_found c.in_err-part_checked.ensures (λ S h. is) (λ f. sym is ∙ f)

pub returns-in_err-present_checked : goal.returns-in_err-present_checked
returns-in_err-present_checked c =
    let a = c.args in
    let is : told_check c.from_residual-in_err-present_checked.result ≡ told_refusal c.in_err-present_checked.field-0.0 = search rules in
    shift_found c.in_ok-part_checked.ensures
    (λ S h. is ∙ ap (λ (x : Check). x then part_stays S a.part (thrice a.dx a.dy a.dz)) (c.in_err-present_checked.ensures S h.parts_are))
    (λ f. refl)

pub returns : goal.returns
returns c =
    -- The steps as they are stored are those that were given.
    let by : c.thrice.result ≡ thrice c.args.dx c.args.dy c.args.dz =
    c.thrice.ensures ∙ (λ i. thrice (to_z-of_z c.ranges.dx i) (to_z-of_z c.ranges.dy i) (to_z-of_z c.ranges.dz i)) in
    shift_found c.in_ok-part_checked.ensures
    (λ S h. c.stays_checked.ensures S h ∙ (λ i. c.in_ok-present_checked.ensures S h.parts_are i then part_stays S c.args.part (by i)))
    (λ f. refl)
