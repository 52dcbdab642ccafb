-- `shells::closing::times` meets its contract: how often the edge occurs in each triangle is added up. Assumes nothing.
use Rattle.std.proofs.Common.{◌≡◌, ◌∙◌, arith, rules}
use Rattle.std.specs.List.{sum_by}
use Rattle.std.proofs.lemmas.Iterator.{YieldsList-from_slice, YieldsList-from_map}
use Rattle.std.proofs.lemmas.Iterator.Consumers.{sum_by_from_yields_List, fits_by_from_yields_list, YieldsList-at}
use Rattle.shells.specs.Opening.{directed}
use Rattle.shells.proofs.Counting.{times_there, times_most, times_in_all}
use Rattle.shells.proofs.closing.times.Goals as goal

pub sum-requires-clause-fits : goal.sum-requires-clause-fits
sum-requires-clause-fits c =
    let ts = c.args.triangles.now in
    let there = times_there (directed c.args.edge) in
    fits_by_from_yields_list there ts c.map.result _
    (YieldsList-from_map _ there (YieldsList-at c.map.ensures.source (YieldsList-from_slice ts cc)) c.map.ensures.closure (λ x r q k. search rules))
    (omega (arith, times_most (directed c.args.edge) ts, c.told-triangles))

pub returns : goal.returns
returns c =
    let ts = c.args.triangles.now in
    let there = times_there (directed c.args.edge) in
    let added : c.sum.result ≡ sum_by there ts =
    sum_by_from_yields_List there ts c.map.result c.sum.result c.sum.ensures.ran
    (YieldsList-from_map _ there (YieldsList-at c.map.ensures.source (YieldsList-from_slice ts cc)) c.map.ensures.closure (λ x r q k. search rules)) in
    added ∙ times_in_all (directed c.args.edge) ts
