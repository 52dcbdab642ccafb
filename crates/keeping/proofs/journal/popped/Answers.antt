-- `keeping::journal::popped` meets its contract: the entries move up by one, and at the end a blank comes last. Assumes nothing.
use Rattle.std.proofs.Common.{set, ◌∙◌, rules}
use Rattle.keeping.specs.Journal.{blank}
use Rattle.keeping.proofs.Past.{popped_law}
use Rattle.keeping.proofs.journal.popped.Goals as goal

pub returns : goal.returns
returns c = (λ i. set (c.copy_within.ensures.after i) 31 (c.blank_entry.ensures i)) ∙ popped_law c.args.journal blank (search rules)
