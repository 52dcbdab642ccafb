-- `inside::corners::odd_ahead` meets its contract: those that are ahead are counted. Assumes nothing.
use Rattle.std.proofs.Common.{◌≡◌, length, filter, List, ℤ, ap, ◌∙◌, rules, tests}
use Rattle.std.proofs.lemmas.Iterator.{YieldsList-from_slice}
use Rattle.std.proofs.lemmas.Iterator.Consumers.{count_from_yields_List, YieldsList-from_filter, YieldsList-at}
use Rattle.shape.specs.InsideTest.{is_ahead}
use Rattle.shape.specs.TriangleLists.{triangle_of}
use Rattle.exact.specs.Vectors.{spatial}
use Rattle.inside.proofs.Counts.{is_odd, odd_counted}
use Rattle.inside.proofs.corners.odd_ahead.Goals as goal

pub returns : goal.returns
returns c =
    let ts = c.args.triangles.now in
    let counted : c.count-ahead.result ≡ length (filter (λ (t : List ℤ). is_ahead (spatial c.args.p) (triangle_of t)) ts) =
    count_from_yields_List c.filter.result c.count-ahead.result c.count-ahead.ensures.ran
    (YieldsList-from_filter _ (λ (t : List ℤ). is_ahead (spatial c.args.p) (triangle_of t)) (YieldsList-at c.filter.ensures.source (YieldsList-from_slice ts cc)) c.filter.ensures.closure (λ x b q k. search (rules, tests))) in
    ap is_odd counted ∙ odd_counted (spatial c.args.p) ts
