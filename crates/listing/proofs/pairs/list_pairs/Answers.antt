-- `listing::pairs::list_pairs` meets its contract: what the checks refuse is refused, and what they pass is listed. Assumes nothing.
use mathlib.Core.Path.{sym, ap, ◌∙◌}
use Rattle.std.proofs.lemmas.Result.{err_from_is_err_and}
use Rattle.checks.specs.Told.{told_check}
use Rattle.listing.proofs.Found.{refused_rule}
use Rattle.listing.proofs.pairs.list_pairs.Goals as goal

pub returns-in_err-input_checked : goal.returns-in_err-input_checked
returns-in_err-input_checked c =
    let a = c.args in
    let same = err_from_is_err_and c.from_residual.result c.from_residual.ensures.1 in
    rw (same.1, same.2) (refused_rule a.a.now a.b.now a.buffer.now a.start _ (sym c.input_checked.ensures ∙ ap told_check c.in_err-input_checked.was))
