-- `deciding::sorting::sort_places` meets its contract: each turn asks at the lowest place. Assumes nothing.
use Rattle.deciding.proofs.StageLaws.{Sorting}
use Rattle.deciding.proofs.sorting.sort_places.Given as goal

abbrev pub invariant-loop-z : goal.invariant-loop-z
invariant-loop-z g l =
    (goal.iterator-loop-z g).can_next l.z-iterator
    × (goal.iterator-loop-z g).is_finite l.z-iterator
    × Sorting (goal.A-post g l.ask) (goal.K-post g l.is_kept) (goal.O-post g l.is_other) l.asked l.fn.sorted.kept l.fn.sorted.other l.initial.standings l.z-iterator.0 l.standings l.kept l.other
