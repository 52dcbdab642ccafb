-- `inside::corners::corner_inside` meets its contract: the triangles are asked in turn. Assumes nothing.
use Rattle.std.proofs.Common.{◌≡◌, ◌∙◌, ◌/◌, Bool, List, ap, sym, length, ℤ, rules, tests}
use Rattle.std.specs.List.{list_any, All}
use Rattle.std.proofs.lemmas.Iterator.{YieldsList-from_slice}
use Rattle.std.proofs.lemmas.Iterator.Adapters.{serves_from_places}
use Rattle.std.proofs.lemmas.Iterator.Search.{any_from_yields_List}
use Rattle.shape.specs.Points.{Point}
use Rattle.shape.specs.Lists.{some}
use Rattle.shape.specs.InsideTest.{odd_ahead, corner_in}
use Rattle.shape.specs.TriangleLists.{triangle_of, triangles_of}
use Rattle.shape.proofs.ListLaws.{some_held}
use Rattle.shape.proofs.TriangleLists.{any_some, chunks_hold}
use Rattle.exact.specs.Grid.{Ready}
use Rattle.inside.proofs.Chunks.{all_ready}
use Rattle.inside.proofs.corners.corner_inside.Goals as goal

pub any-requires-clause-callable : goal.any-requires-clause-callable
any-requires-clause-callable c =
    let ts = c.as_chunks.result.0.now in
    let us = c.as_chunks-2.result.0.now in
    let first : All (Ready 9) ts = rw c.as_chunks.ensures.front (all_ready c.args.triangles.now c.requires.0) in
    let second : All (Ready 9) us = rw c.as_chunks-2.ensures.front (all_ready c.args.others.now c.requires.1) in
    serves_from_places (YieldsList-from_slice ts cc) (λ x q k. search rules) (λ x k h e. let this : Ready 9 x.now = rw e (first k x.now h) in search rules)

pub returns : goal.returns
returns c =
    let ts = c.as_chunks.result.0.now in
    let us = c.as_chunks-2.result.0.now in
    let inner : Point → Bool = λ a. odd_ahead a (triangles_of us) in
    let asked : c.any.result ≡ list_any (λ (t : List ℤ). some inner (triangle_of t)) ts =
    any_from_yields_List (λ (t : List ℤ). some inner (triangle_of t)) _ _ c.any.result c.any.ensures.ran (YieldsList-from_slice ts cc) (λ x b q k. search (rules, tests)) in
    let all_first = ap triangles_of c.as_chunks.ensures.front ∙ chunks_hold (length c.args.triangles.now / 9) c.args.triangles.now in
    let all_second = ap triangles_of c.as_chunks-2.ensures.front ∙ chunks_hold (length c.args.others.now / 9) c.args.others.now in
    asked
    ∙ any_some triangle_of (some inner) ts
    ∙ sym (some_held inner (λ P. P) (triangles_of ts))
    ∙ (λ i. corner_in (all_first i) (all_second i))
