-- `predicate::verdicts::segment_verdict` meets its contract: what the checks pass the test may take. Assumes nothing.
use mathlib.Core.Path.{sym}
use Rattle.checks.specs.Rules.{takes_flat}
use Rattle.checks.proofs.Passing.{both_passed}
use Rattle.predicate.proofs.verdicts.segment_verdict.Goals as goal

pub segment_meets_triangle-requires : goal.segment_meets_triangle-requires
segment_meets_triangle-requires c = both_passed takes_flat 3 2 3 c.args.first.now c.args.second.now (sym c.in_ok-in_space_checked.ensures)
