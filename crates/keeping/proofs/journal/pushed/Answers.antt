-- `keeping::journal::pushed` meets its contract: the old entries move down by one, and the latest stands first. Assumes nothing.
use Rattle.std.proofs.Common.{set, ap, ◌∙◌, rules, List}
use Rattle.keeping.specs.declared.journal.Entry.{Entry}
use Rattle.keeping.proofs.Past.{pushed_law}
use Rattle.keeping.proofs.journal.pushed.Goals as goal

pub returns : goal.returns
returns c = ap (λ (l : List Entry). set l 0 c.args.latest) c.copy_within.ensures.after ∙ pushed_law c.args.journal c.args.latest (search rules)
