-- `slots::counting::GridSlots::strikes_mark` meets its contract: of each slot the mark decides, and then whether it clashes with slot i. Assumes nothing.
use Rattle.std.proofs.Common.{rules, tests, refl, ◌∙◌, get_or}
use Rattle.std.proofs.lemmas.Iterator.{YieldsList-from_range}
use Rattle.std.proofs.lemmas.Iterator.Search.{any_from_yields_List}
use Rattle.slots.specs.Slots.{free}
use Rattle.slots.specs.Counting.{strikes_if}
use Rattle.slots.proofs.Ranges.{some_in_range, other_marked, same_marked}
use Rattle.slots.proofs.counting.GridSlots.strikes_mark.Goals as goal

pub returns : goal.returns
returns c = λ S h.
    let x = get_or S c.args.i free in
    any_from_yields_List (λ j. strikes_if c.args.mark x (get_or S j free)) c.any.new.self _ c.any.result c.any.ensures.ran (YieldsList-from_range 0 64 64 refl refl)
    (λ j b q k. search (rules, tests, other_marked, same_marked))
    ∙ some_in_range (strikes_if c.args.mark x) free S 64 h.fit.long
