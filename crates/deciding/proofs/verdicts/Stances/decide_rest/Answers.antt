-- `deciding::verdicts::Stances::decide_rest` meets its contract: each turn decides the lowest place. Assumes nothing.
use mathlib.Core.Path.{subst}
use Rattle.std.proofs.Common.{ℕ, arith}
use Rattle.words.proofs.LowestLaws.{lowest_is_set}
use Rattle.words.proofs.Filling.{Filled, filled_starts, filled_fits}
use Rattle.deciding.specs.Stages.{JudgedAt}
use Rattle.deciding.proofs.StageLaws.{flag_added, marked, faced}
use Rattle.deciding.proofs.verdicts.Stances.decide_rest.Goals as goal

pub loop-z-init : goal.loop-z-init
loop-z-init c = (tt, tt, rw c.into_iter-z-iterator.ensures.into_iter_gives (filled_starts c.requires.2))

pub meet-requires : goal.meet-requires
meet-requires c =
    let p = c.requires in
    let step = c.in-Some.ensures.steps in
    let set = c.loop-z.invariant.2.still_asked c.in-Some.z (lowest_is_set step.lowest) in
    (faced p.0 set step.within, p.1 c.in-Some.z set)

pub overflow_add-word : goal.overflow_add-word
overflow_add-word c =
    omega (arith, c.flag_at-word.ensures, filled_fits c.meet.result c.loop-z.invariant.2 c.in-Some.ensures.steps.lowest 64 (omega arith) (omega arith))

pub loop-z-preserved : goal.loop-z-preserved
loop-z-preserved c =
    (tt, tt, flag_added {v = c.meet.result} c.loop-z.invariant.2 c.in-Some.ensures.steps.lowest (record { judges = c.meet.ensures }) c.flag_at-word.ensures)

pub returns : goal.returns
returns c =
    marked (subst (λ (left : ℕ). Filled (JudgedAt c.args.self.now.pairs) c.args.known c.args.asked left c.loop-z.word) c.in-None.ensures.steps.0 c.loop-z.invariant.2)
