-- `plate::questions::present_verdict` meets its contract: the same part, the skins, and then the shells. Assumes nothing.
use Rattle.std.proofs.Common.{sym, ◌∙◌, subst, eq-eqb, ne_eqb}
use Rattle.slots.specs.Counting.{marks_strike}
use Rattle.slots.specs.Showing.{Shown}
use Rattle.slots.specs.declared.flat.Slots.{Slots}
use Rattle.slots.proofs.Grids.{never_off}
use Rattle.plate.proofs.questions.present_verdict.Goals as goal

pub returns-then-p-q : goal.returns-then-p-q
returns-then-p-q c = λ S h. rw (eq-eqb c.args.p c.args.q c.if-p-q.true)

pub returns-then-marks_strike : goal.returns-then-marks_strike
returns-then-marks_strike c = λ S h.
    let skins = sym (c.marks_strike.ensures S h ∙ (λ k. marks_strike (c.mark_for.ensures k) (c.mark_for-2.ensures k) S)) ∙ c.if-marks_strike.true in
    rw (ne_eqb c.args.p c.args.q c.if-p-q.false, skins)

pub returns-in-Some : goal.returns-in-Some
returns-in-Some c = λ S h.
    let skins = sym (c.marks_strike.ensures S h ∙ (λ k. marks_strike (c.mark_for.ensures k) (c.mark_for-2.ensures k) S)) ∙ c.if-marks_strike.false in
    let on = subst (λ (s : Slots). Shown S s.coords s.marks) (sym c.in-Some.ensures) h in
    rw (ne_eqb c.args.p c.args.q c.if-p-q.false, skins) (c.shells_verdict.ensures S on)

pub returns-in-None : goal.returns-in-None
returns-in-None c = λ S h. absurd (never_off h c.in-None.ensures)
