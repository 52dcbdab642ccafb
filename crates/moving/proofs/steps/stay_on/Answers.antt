-- `moving::steps::stay_on` meets its contract: each sum is tested. Assumes nothing.
use Rattle.std.proofs.Common.{rules, tests, ◌∙◌}
use Rattle.std.proofs.lemmas.Iterator.{YieldsList-from_slice, YieldsList-from_zip}
use Rattle.std.proofs.lemmas.Iterator.Search.{all_from_yields_List}
use Rattle.moving.proofs.MoveLaws.{lands, all_land}
use Rattle.moving.proofs.steps.stay_on.Goals as goal

pub returns : goal.returns
returns c =
    let xs = c.args.numbers.now in
    let by = c.args.by.now in
    all_from_yields_List lands c.all.new.self _ c.all.result c.all.ensures.ran (YieldsList-from_zip (YieldsList-from_slice xs cc) (YieldsList-from_slice by cc))
    (λ x b q k. search (rules, tests))
    ∙ all_land by xs c.requires
