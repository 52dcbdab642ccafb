-- `shells::closing::is_open` meets its contract: the triangles are asked in turn. Assumes nothing.
use Rattle.std.proofs.Common.{◌≡◌, ◌∙◌, ◌/◌, Bool, List, not, ap, length, ℤ, rules, tests}
use Rattle.std.specs.List.{list_any}
use Rattle.std.proofs.lemmas.Iterator.{YieldsList-from_slice}
use Rattle.std.proofs.lemmas.Iterator.Search.{any_from_yields_List}
use Rattle.shape.specs.Points.{Shape}
use Rattle.shape.specs.Lists.{some}
use Rattle.shape.specs.Shells.{edges_of, is_closed}
use Rattle.shape.specs.TriangleLists.{triangle_of, triangles_of}
use Rattle.shape.proofs.TriangleLists.{any_some, chunks_hold}
use Rattle.shells.specs.Opening.{edge_open}
use Rattle.shells.proofs.Opening.{open_says}
use Rattle.shells.proofs.closing.is_open.Goals as goal

pub returns : goal.returns
returns c =
    let ts = c.as_chunks.result.0.now in
    let test : Shape → Bool = λ P. some (edge_open (triangles_of ts)) (edges_of P) in
    let asked : c.any.result ≡ list_any (λ (t : List ℤ). test (triangle_of t)) ts =
    any_from_yields_List (λ (t : List ℤ). test (triangle_of t)) _ _ c.any.result c.any.ensures.ran (YieldsList-from_slice ts cc) (λ x b q k. search (rules, tests)) in
    asked
    ∙ any_some triangle_of test ts
    ∙ open_says (triangles_of ts)
    ∙ ap (λ (Ps : List Shape). not (is_closed Ps)) (ap triangles_of c.as_chunks.ensures.front ∙ chunks_hold (length c.args.numbers.now / 9) c.args.numbers.now)
