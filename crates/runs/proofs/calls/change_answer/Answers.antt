-- `runs::calls::change_answer` meets its contract: what the call told is told on. Assumes nothing.
use Rattle.std.proofs.Common.{ap, ◌∙◌}
use Rattle.telling.specs.Numbers.{four_numbers}
use Rattle.telling.proofs.Codes.{change_coded}
use Rattle.runs.proofs.PlateLaws.{change_kept}
use Rattle.runs.proofs.calls.change_answer.Goals as goal

pub returns : goal.returns
returns c = change_kept c.args.answer c.numbers_of.result (c.numbers_of.ensures ∙ ap four_numbers (change_coded c.args.answer.told))
