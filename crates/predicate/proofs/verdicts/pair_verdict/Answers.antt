-- `predicate::verdicts::pair_verdict` meets its contract: what the checks pass the test may take. Assumes nothing.
use mathlib.Core.Path.{sym}
use Rattle.checks.specs.Rules.{takes_flat}
use Rattle.checks.proofs.Passing.{both_passed}
use Rattle.predicate.proofs.verdicts.pair_verdict.Goals as goal

pub triangles_meet-requires : goal.triangles_meet-requires
triangles_meet-requires c = both_passed takes_flat 3 3 3 c.args.first.now c.args.second.now (sym c.in_ok-in_space_checked.ensures)
