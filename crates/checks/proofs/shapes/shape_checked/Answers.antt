-- `checks::shapes::shape_checked` meets its contract: what is off the grid is refused, and of the rest what is flat. Assumes nothing.
use mathlib.Core.Path.{sym, ap, ◌∙◌}
use Rattle.checks.specs.Told.{told_check}
use Rattle.checks.proofs.CheckLaws.{fine_ready}
use Rattle.checks.proofs.shapes.shape_checked.Goals as goal

pub is_flat-requires : goal.is_flat-requires
is_flat-requires c =
    fine_ready c.args.side c.args.numbers.now c.requires (sym c.grid_checked.ensures ∙ ap told_check c.in_ok-grid_checked.was)
