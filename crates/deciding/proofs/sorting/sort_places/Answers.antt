-- `deciding::sorting::sort_places` meets its contract: each turn asks at the lowest place. Assumes nothing.
use mathlib.Core.Path.{subst}
use Rattle.std.proofs.Common.{ℕ, arith, rules, ◌≡◌, length}
use Rattle.words.proofs.LowestLaws.{lowest_is_set}
use Rattle.words.proofs.Filling.{filled_fits}
use Rattle.deciding.proofs.StageLaws.{Sorting, sorting_starts, sorting_on, sorting_ends}
use Rattle.deciding.proofs.sorting.sort_places.Goals as goal

pub loop-z-init : goal.loop-z-init
loop-z-init g c =
    let p = c.requires in
    let long : length c.args.standings.now ≡ 64 = search rules in
    (tt, tt, rw c.into_iter-z-iterator.ensures.into_iter_gives (sorting_starts long p.clear.0 p.clear.1))

pub ask-s-requires : goal.ask-s-requires
ask-s-requires g c =
    let step = c.in-Some.ensures.steps in
    c.requires.askable c.in-Some.z step.within (c.loop-z.invariant.2.by_first.still_asked c.in-Some.z (lowest_is_set step.lowest))

pub overflow_add-kept : goal.overflow_add-kept
overflow_add-kept g c =
    omega (arith, c.flag_at-kept.ensures, filled_fits c.is_kept.result c.loop-z.invariant.2.by_first c.in-Some.ensures.steps.lowest 64 (omega arith) (omega arith))

pub overflow_add-other : goal.overflow_add-other
overflow_add-other g c =
    omega (arith, c.flag_at-other.ensures, filled_fits c.is_other.result c.loop-z.invariant.2.by_second c.in-Some.ensures.steps.lowest 64 (omega arith) (omega arith))

pub loop-z-preserved : goal.loop-z-preserved
loop-z-preserved g c =
    (tt, tt, sorting_on c.loop-z.invariant.2 c.in-Some.ensures.steps c.ask-s.ensures c.is_kept.ensures c.is_other.ensures c.flag_at-kept.ensures c.flag_at-other.ensures)

pub returns : goal.returns
returns g c =
    sorting_ends (subst (λ (left : ℕ). Sorting (goal.A-post g c.args.ask) (goal.K-post g c.args.is_kept) (goal.O-post g c.args.is_other) c.args.asked c.args.sorted.kept c.args.sorted.other c.args.standings.now left c.loop-z.standings c.loop-z.kept c.loop-z.other) c.in-None.ensures.steps.0 c.loop-z.invariant.2)
