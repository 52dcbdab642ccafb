-- `slots::flat::Slots::has_mark` meets its contract: it looks for the mark. Assumes nothing.
use Rattle.std.proofs.Common.{◌∙◌}
use Rattle.slots.specs.Counting.{has_mark}
use Rattle.slots.proofs.Ranges.{any_is_some}
use Rattle.slots.proofs.flat.Slots.has_mark.Goals as goal

pub returns : goal.returns
returns c = c.contains.ensures.value ∙ any_is_some (has_mark c.args.mark) c.args.self.now.marks
