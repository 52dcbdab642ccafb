-- `slots::flat::Slots::lowest_leaving` meets its contract: no slot before the one found leaves the grid. Assumes nothing.
use Rattle.std.proofs.Common.{rules, tests, ◌≡◌, true, false, get_or}
use Rattle.std.proofs.lemmas.Iterator.{first_from_Range}
use Rattle.slots.specs.Slots.{free}
use Rattle.slots.specs.Leaving.{leaves}
use Rattle.slots.proofs.Ranges.{lowest_in_range}
use Rattle.slots.proofs.flat.Slots.lowest_leaving.Goals as goal

pub returns : goal.returns
returns c = λ S q h e.
    let test = leaves q c.args.by.now in
    lowest_in_range test free S 64 h.fit.long c.find.result
    (first_from_Range _ _ _ c.find.result (λ i. test (get_or S i free) ≡ true) (λ i. test (get_or S i free) ≡ false) c.find.ensures.ran
    (λ i f k. search (rules, tests)) (λ i f k. search (rules, tests)))
