-- `predicate::signs::turn_value` meets its contract: only points that are ready pass the checks. Assumes nothing.
use Rattle.predicate.proofs.ValueLaws.{points_ready}
use Rattle.predicate.proofs.signs.turn_value.Goals as goal

pub turn_of-requires : goal.turn_of-requires
turn_of-requires c = points_ready 2 c.args.points.now c.in_ok-points_checked.ensures
