-- `runs::run::run_calls` meets its contract: the calls so far are answered, and the plate stands for them. Assumes nothing.
use Rattle.std.proofs.Common.{◌+◌, ◌*◌, ◌≤◌, length, get_or, sym, ap, ◌∙◌, subst, arith}
use Rattle.algebra.proofs.Parts.{part}
use Rattle.runs.specs.PlateRuns.{Ask, ask_of, ask_at, CallKept}
use Rattle.runs.proofs.PlateLaws.{begun, one_more}
use Rattle.runs.proofs.run.run_calls.Goals as goal

pub loop-k-init : goal.loop-k-init
loop-k-init c = begun _ _ _ c.empty-plate.ensures

pub loop-k-preserved : goal.loop-k-preserved
loop-k-preserved c =
    let calls = c.args.calls.now in
    let numbers = c.args.numbers.now in
    let l = c.loop-k in
    let k = l.k in
    let room : 6 * k + 6 ≤ length l.answers = omega (arith, c.loop-k-test.true, sym c.room_for-room.ensures, l.invariant.long) in
    -- What was asked is what the lists ask for, with the nine numbers that are lent.
    let kept : CallKept (ask_at calls numbers k) l.plate c.ask-told.result =
    subst (λ (asked : Ask). CallKept asked l.plate c.ask-told.result)
    (c.in-Some.ensures _ ∙ ap (ask_of (get_or calls (3 * k) 0) (get_or calls (3 * k + 1) 0) (get_or calls (3 * k + 2) 0)) (part (9 * k) 9 numbers))
    c.ask-told.ensures in
    one_more c.ask-told.result l.invariant room kept c.put_six.ensures
