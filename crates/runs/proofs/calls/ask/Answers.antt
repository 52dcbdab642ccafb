-- `runs::calls::ask` meets its contract: the question whether two parts clash is told on as it was answered. Assumes nothing.
use Rattle.std.proofs.Common.{ap, ◌∙◌}
use Rattle.predicate.specs.Told.{told_verdict}
use Rattle.telling.specs.Numbers.{four_numbers}
use Rattle.telling.proofs.Codes.{verdict_coded}
use Rattle.runs.proofs.PlateLaws.{parts_kept}
use Rattle.runs.proofs.calls.ask.Goals as goal

pub returns-in-Parts : goal.returns-in-Parts
returns-in-Parts c =
    let told = c.parts.result in
    rw c.in-Parts.is
    (parts_kept c.args.plate (told_verdict told) c.numbers_of.result c.parts.ensures (c.numbers_of.ensures ∙ ap four_numbers (verdict_coded told)))
