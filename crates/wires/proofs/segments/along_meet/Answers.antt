-- `wires::segments::along_meet` meets its contract: coordinate by coordinate, z first. Assumes nothing.
use Rattle.std.proofs.Common.{sym, ◌∙◌, true≢false}
use Rattle.shape.specs.WireTest.{stretches_meet}
use Rattle.exact.proofs.Branches.{if_taken, if_left, as_it_is}
use Rattle.wires.proofs.WireLaws.{along_read}
use Rattle.wires.proofs.segments.along_meet.Goals as goal
use Rattle.wires.proofs.segments.along_meet.Goals.{then-stretches_meet, else-stretches_meet}

pub returns-then-stretches_meet-2 : goal.returns-then-stretches_meet-2
returns-then-stretches_meet-2 c =
    let s = c.args.s in
    let t = c.args.t in
    let read = along_read stretches_meet s.p.on_grid s.q.on_grid t.p.on_grid t.q.on_grid in
    elim c.if-stretches_meet.branch [
      | then-stretches_meet w ↦
          if_taken _ _ (read 2 _ c.stretches_meet.ensures) w.if-stretches_meet.true
          (if_taken _ _ (read 1 _ w.stretches_meet-then-stretches_meet.ensures) (sym w.value-is ∙ c.if-stretches_meet-2.true)
          (as_it_is (read 0 _ c.stretches_meet-then-stretches_meet-2.ensures)))
      | else-stretches_meet w ↦ absurd (true≢false (sym c.if-stretches_meet-2.true ∙ w.value-is ∙ w.if-stretches_meet.false))
    ]

pub returns-else-stretches_meet-2 : goal.returns-else-stretches_meet-2
returns-else-stretches_meet-2 c =
    let s = c.args.s in
    let t = c.args.t in
    let read = along_read stretches_meet s.p.on_grid s.q.on_grid t.p.on_grid t.q.on_grid in
    elim c.if-stretches_meet.branch [
      | then-stretches_meet w ↦
          if_taken _ _ (read 2 _ c.stretches_meet.ensures) w.if-stretches_meet.true
          (if_left _ _ (read 1 _ w.stretches_meet-then-stretches_meet.ensures) (sym w.value-is ∙ c.if-stretches_meet-2.false) c.if-stretches_meet-2.false)
      | else-stretches_meet w ↦
          if_left _ _ (read 2 _ c.stretches_meet.ensures) w.if-stretches_meet.false (w.value-is ∙ w.if-stretches_meet.false)
    ]
