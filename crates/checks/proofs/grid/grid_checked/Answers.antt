-- `checks::grid::grid_checked` meets its contract: a place is sought only where some number is off the grid. Assumes nothing.
use mathlib.Core.Path.{sym, ◌∙◌}
use Rattle.checks.proofs.CheckLaws.{all_on_fine, found_off, none_found}
use Rattle.checks.proofs.grid.grid_checked.Goals as goal

pub returns-then-all_on : goal.returns-then-all_on
returns-then-all_on c =
    sym (all_on_fine c.args.side c.args.numbers.now (sym c.all_on.ensures ∙ c.if-all_on.true))

pub returns-in-Some : goal.returns-in-Some
returns-in-Some c =
    let a = c.args in c.new.ensures ∙ found_off a.side a.numbers.now c.in-Some.place (sym c.lowest_off.ensures ∙ c.in-Some.is)

pub returns-in-None : goal.returns-in-None
returns-in-None c = none_found c.args.side c.args.numbers.now (sym c.lowest_off.ensures ∙ c.in-None.is)
