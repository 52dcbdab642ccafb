-- `slots::counting::GridSlots::part_clashes` meets its contract: n are the clashes of those of the first i slots that have the mark. Assumes nothing.
use Rattle.std.proofs.Common.{refl, sym, ◌∙◌, arith}
use Rattle.slots.specs.Counting.{cross}
use Rattle.slots.proofs.Arrays.{mark_is}
use Rattle.slots.proofs.Counts.{cross_own, cross_other, cross_all}
use Rattle.slots.proofs.counting.GridSlots.part_clashes.Goals as goal
use Rattle.slots.proofs.counting.GridSlots.part_clashes.Goals.{then-self-i, else-self-i}

pub loop-i-init : goal.loop-i-init
unfolding cross
loop-i-init c = (omega arith, λ S h. refl)

pub loop-i-preserved : goal.loop-i-preserved
loop-i-preserved c =
    let l = c.loop-i in
    elim c.if-self-i.branch [
      | then-self-i w ↦ (
        omega (arith, w.n-is, w.slot_clashes-n.ensures.most, l.invariant.0),
        λ S h. w.n-is ∙ cross_own _ S S l.i (omega (arith, c.loop-i-test.true, h.fit.long)) (l.invariant.1 S h)
            (sym (mark_is h l.i) ∙ w.if-self-i.true) (w.slot_clashes-n.ensures.row S h),
      )
      | else-self-i w ↦ (
        omega (arith, w.n-is, l.invariant.0),
        λ S h. w.n-is ∙ cross_other _ S S l.i (omega (arith, c.loop-i-test.true, h.fit.long)) (l.invariant.1 S h)
            (λ own. w.if-self-i.false (mark_is h l.i ∙ own)),
      )
    ]

pub returns : goal.returns
returns c = λ S h. c.loop-i.invariant.1 S h ∙ cross_all _ S S c.loop-i.i (omega (arith, c.loop-i-test.false, h.fit.long))
