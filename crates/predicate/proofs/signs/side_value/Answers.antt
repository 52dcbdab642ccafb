-- `predicate::signs::side_value` meets its contract: only points that are ready pass the checks. Assumes nothing.
use Rattle.predicate.proofs.ValueLaws.{points_ready}
use Rattle.predicate.proofs.signs.side_value.Goals as goal

pub side_of-requires : goal.side_of-requires
side_of-requires c = points_ready 3 c.args.points.now c.in_ok-points_checked.ensures
