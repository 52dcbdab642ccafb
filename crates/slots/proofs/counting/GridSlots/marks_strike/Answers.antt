-- `slots::counting::GridSlots::marks_strike` meets its contract: of each slot the mark decides, and then whether it clashes with a slot of the second
-- mark. Assumes nothing.
use Rattle.std.proofs.Common.{rules, tests, refl, ◌∙◌, get_or}
use Rattle.std.proofs.lemmas.Iterator.{YieldsList-from_range}
use Rattle.std.proofs.lemmas.Iterator.Search.{any_from_yields_List}
use Rattle.slots.specs.Slots.{free}
use Rattle.slots.specs.Counting.{slot_strikes}
use Rattle.slots.proofs.Ranges.{some_in_range, other_marked, same_marked}
use Rattle.slots.proofs.counting.GridSlots.marks_strike.Goals as goal

pub returns : goal.returns
returns c = λ S h.
    let test = slot_strikes c.args.first c.args.second S in
    any_from_yields_List (λ i. test (get_or S i free)) c.any.new.self _ c.any.result c.any.ensures.ran (YieldsList-from_range 0 64 64 refl refl)
    (λ i b q k. search (rules, tests, other_marked, same_marked))
    ∙ some_in_range test free S 64 h.fit.long
