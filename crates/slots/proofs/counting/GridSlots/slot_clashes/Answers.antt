-- `slots::counting::GridSlots::slot_clashes` meets its contract: n are the clashes with the first j slots, and none of them is with one of the same mark.
-- Assumes nothing.
use Rattle.std.proofs.Common.{ℕ, ◌+◌, refl, sym, ap, ◌∙◌, get_or, arith}
use Rattle.slots.specs.Slots.{free}
use Rattle.slots.specs.Counting.{row}
use Rattle.exact.proofs.Branches.{bit≤}
use Rattle.slots.proofs.Arrays.{mark_is}
use Rattle.slots.proofs.Counts.{row_unmarked, row_more, strikes_same, row_none, row_all}
use Rattle.slots.proofs.counting.GridSlots.slot_clashes.Goals as goal
use Rattle.slots.proofs.counting.GridSlots.slot_clashes.Goals.{then-self-j, else-self-j}

pub returns-then-self-i-eq0-clause-row : goal.returns-then-self-i-eq0-clause-row
returns-then-self-i-eq0-clause-row c = λ S h. row_unmarked (get_or S c.args.i free) S (sym (mark_is h c.args.i) ∙ c.if-self-i-eq0.true)

pub loop-j-init : goal.loop-j-init
unfolding row
loop-j-init c = (omega arith, λ S h. refl)

pub loop-j-preserved : goal.loop-j-preserved
loop-j-preserved c =
    let l = c.loop-j in
    elim c.if-self-j.branch [
      | then-self-j w ↦ (
        omega (arith, w.n-is, w.from-n.ensures, bit≤ w.strikes.result, l.invariant.0),
        λ S h. w.n-is ∙ ap (λ (m : ℕ). l.n + m) w.from-n.ensures
            ∙ row_more _ S l.j (omega (arith, c.loop-j-test.true, h.fit.long)) (l.invariant.1 S h) (w.strikes.ensures S h),
      )
      | else-self-j w ↦ (
        omega (arith, w.n-is, l.invariant.0),
        λ S h. w.n-is ∙ row_none _ S l.j (omega (arith, c.loop-j-test.true, h.fit.long)) (l.invariant.1 S h)
            (strikes_same _ _ (sym (mark_is h _) ∙ sym w.if-self-j.false ∙ mark_is h _)),
      )
    ]

pub returns-clause-most : goal.returns-clause-most
returns-clause-most c = omega (arith, c.loop-j.auto.j-end, c.loop-j.invariant.0)

pub returns-clause-row : goal.returns-clause-row
returns-clause-row c = λ S h. c.loop-j.invariant.1 S h ∙ row_all _ S c.loop-j.j (omega (arith, c.loop-j-test.false, h.fit.long))
