-- `boxes::boxes::put_rows` meets its contract: the rows before i are written, and the next leaves them. Assumes nothing.
use mathlib.Core.Path.{◌≡◌, refl, ◌∙◌}
use Prim.Native.Nat.{◌*◌, ◌+◌, ◌≤◌, ◌<◌}
use native.Mathlib.Nat.{mul-le-mul_left}
use native.Mathlib.Omega.{arith}
use lib.ListN.{length}
use Rattle.std.specs.Iterator.Adapters.{enumerate_source, enumerate_count}
use Rattle.std.specs.Slice.Iter.{chunks_exact_rest}
use Rattle.algebra.proofs.Parts.{length_lent}
use Rattle.boxes.specs.Triangles.{triangles, nine}
use Rattle.boxes.proofs.Rows.{Left, next_is, one_more}
use Rattle.boxes.proofs.boxes.put_rows.Goals as goal

pub loop-i-preserved : goal.loop-i-preserved
loop-i-preserved g c =
    let before = c.loop-i.invariant in
    let step = c.in-Some.ensures.steps in
    let on = c.in-Some.ensures.goes.on before.1 in
    let width = c.args.width in
    let i = enumerate_count c.loop-i.i-iterator in
    let numbers = c.args.numbers.now in
    let next : (i < triangles numbers) × (c.in-Some.corners.now ≡ nine i numbers) × Left numbers (chunks_exact_rest (enumerate_source c.next.new.self)) (i + 1) =
    next_is before.3 step.0.1.0 (step.0.1.1 ∙ before.2) in
    let room : width * i + width ≤ length c.loop-i.rows = omega (arith, mul-le-mul_left width next.0, before.4.long, c.requires.room) in
    let long = rw step.1 at c.put.auto.arg2 in (
      on.0,
      on.1,
      step.0.0 ∙ before.2,
      rw step.2 next.2,
      rw (step.2, step.1)
          (one_more before.4 room (omega (arith, long, length_lent (width * i) width c.loop-i.rows room))
          (record { shown = _; of = c.in-Some.corners; shows = next.1; left = _; met = c.put.ensures; leaves = refl })),
    )
