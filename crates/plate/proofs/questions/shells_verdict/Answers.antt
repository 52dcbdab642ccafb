-- `plate::questions::shells_verdict` meets its contract: each way out tells what the shells and the corners of the two parts are found to be. Assumes nothing.
use Rattle.std.proofs.Common.{◌≡◌, refl, ap, ◌∙◌, rules}
use Rattle.checks.specs.Answers.{served}
use Rattle.checks.specs.Told.{told_refusal}
use Rattle.predicate.specs.Told.{told_verdict}
use Rattle.slots.proofs.Grids.{zeros_ready}
use Rattle.plate.specs.Deciding.{either_inside}
use Rattle.plate.proofs.PartsLaws.{by_shells, front_gathered, front_on_grid}
use Rattle.plate.proofs.questions.shells_verdict.Goals as goal

pub gather_part-m-requires : goal.gather_part-m-requires
gather_part-m-requires c = zeros_ready 576

pub gather_part-n-requires : goal.gather_part-n-requires
gather_part-n-requires c = zeros_ready 576

pub either_inside-requires : goal.either_inside-requires
either_inside-requires c = (front_on_grid c.gather_part-m.ensures, front_on_grid c.gather_part-n.ensures)

pub returns-in_err-closed_checked : goal.returns-in_err-closed_checked
returns-in_err-closed_checked c = λ S h.
    let first = front_gathered c.gather_part-m.ensures S c.args.p h c.mark_for.ensures in
    let is : told_verdict c.from_residual.result ≡ told_refusal c.in_err-closed_checked.field-0.0 = search rules in
    by_shells S c.args.p c.args.q (c.in_err-closed_checked.ensures S first) refl is

pub returns-in_err-closed_checked-2 : goal.returns-in_err-closed_checked-2
returns-in_err-closed_checked-2 c = λ S h.
    let first = front_gathered c.gather_part-m.ensures S c.args.p h c.mark_for.ensures in
    let second = front_gathered c.gather_part-n.ensures S c.args.q h c.mark_for-2.ensures in
    let is : told_verdict c.from_residual-in_err-closed_checked-2.result ≡ told_refusal c.in_err-closed_checked-2.field-0.0 = search rules in
    by_shells S c.args.p c.args.q (c.in_ok-closed_checked.ensures S first) (c.in_err-closed_checked-2.ensures S second) is

pub returns : goal.returns
returns c = λ S h.
    let first = front_gathered c.gather_part-m.ensures S c.args.p h c.mark_for.ensures in
    let second = front_gathered c.gather_part-n.ensures S c.args.q h c.mark_for-2.ensures in
    by_shells S c.args.p c.args.q (c.in_ok-closed_checked.ensures S first) (c.in_ok-closed_checked-2.ensures S second)
    (ap served (c.from.ensures ∙ c.either_inside.ensures ∙ (λ i. either_inside (first i) (second i))))
