-- `predicate::verdicts::flat_verdict` meets its contract: what the checks pass the test may take. Assumes nothing.
use mathlib.Core.Path.{sym}
use Rattle.checks.specs.Rules.{refuses_flat}
use Rattle.checks.proofs.Passing.{both_passed}
use Rattle.predicate.proofs.verdicts.flat_verdict.Goals as goal

pub flat_triangles_meet-requires : goal.flat_triangles_meet-requires
flat_triangles_meet-requires c = both_passed refuses_flat 2 3 3 c.args.first.now c.args.second.now (sym c.in_ok-flat_test_checked.ensures)
