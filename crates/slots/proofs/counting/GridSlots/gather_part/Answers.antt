-- `slots::counting::GridSlots::gather_part` meets its contract: the list holds the triangles of the part among the first i slots. Assumes nothing.
use Rattle.std.proofs.Common.{length, ap, ◌∙◌, arith}
use Rattle.slots.specs.Showing.{SlotGathered}
use Rattle.slots.proofs.PartTriangles.{gathered_none, gathered_all, gather_own, gather_other}
use Rattle.slots.proofs.Grids.{nine_ready}
use Rattle.slots.proofs.counting.GridSlots.gather_part.Goals as goal
use Rattle.slots.proofs.counting.GridSlots.gather_part.Goals.{then-self-i, else-self-i}

pub loop-i-init : goal.loop-i-init
loop-i-init c = (omega arith, c.requires, λ S q h e. gathered_none _ q S)

pub loop-i-preserved : goal.loop-i-preserved
loop-i-preserved c =
    let l = c.loop-i in
    let on = c.args.self in
    let coords = on.slots.now.coords in
    let marks = on.slots.now.marks in
    let step : SlotGathered coords marks l.i c.args.mark l.triangles l.many c.if-self-i.triangles c.if-self-i.many =
    elim c.if-self-i.branch [
      | then-self-i w ↦
          let nine = w.copy_from_slice.ensures.after ∙ w.numbers.ensures.value in
          let good = nine_ready l.i coords nine (ap length w.copy_from_slice.ensures.after ∙ w.numbers.ensures.len) on.on in
          rw (w.triangles-is, w.many-is) (gather_own coords marks l.i c.args.mark l.triangles l.many c.loop-i-test.true l.invariant.0 l.invariant.1 good nine w.if-self-i.true)
      | else-self-i w ↦
          rw (w.triangles-is, w.many-is) (gather_other coords marks l.i c.args.mark l.triangles l.many c.loop-i-test.true l.invariant.1 w.if-self-i.false)
    ] in
    (omega (arith, step.most, l.invariant.0), step.ready, λ S q h e. step.is S q h e (l.invariant.2 S q h e))

pub returns : goal.returns
returns c =
    let l = c.loop-i in record {
      most = omega (arith, l.auto.i-end, l.invariant.0);
      ready = l.invariant.1;
      is = λ S q h e. l.invariant.2 S q h e ∙ gathered_all h q l.i (omega (arith, c.loop-i-test.false));
    }
