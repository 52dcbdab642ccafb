-- `listing::pairs::list_sound` meets its contract: all pairs are decided before one is written. Assumes nothing.
use mathlib.Core.Path.{◌≡◌, sym, ◌∙◌}
use native.Mathlib.Omega.{arith}
use Prim.Native.Nat.{◌*◌}
use lib.ListN.{length}
use Rattle.boxes.specs.Triangles.{triangles}
use Rattle.listing.proofs.Found.{found_rule}
use Rattle.listing.proofs.Sound.{both_sound, start_within_law}
use Rattle.listing.proofs.Telling.{length_told}
use Rattle.std.proofs.Common.{rules}
use Rattle.listing.proofs.pairs.list_sound.Goals as goal
use Rattle.listing.proofs.pairs.list_sound.Goals.{After-decide_lists-found}

pub decide_lists-found-requires : goal.decide_lists-found-requires
decide_lists-found-requires c =
    let a = c.args in
    let both = both_sound a.a.now a.b.now a.buffer.now a.start c.requires in
    let few = both.0.few in
    (both.0, both.1, search (rules, few))

-- The words are as many as the first list's triangles need.
many : (c : After-decide_lists-found) → length c.decide_lists-found.new.words ≡ triangles c.args.a.now * 16
many c =
    let a = c.args in
    let few = (both_sound a.a.now a.b.now a.buffer.now a.start c.requires).0.few in
    let same = c.decide_lists-found.auto.words in
    search (rules, same, few)

pub list_found-requires : goal.list_found-requires
list_found-requires c =
    let a = c.args in
    let both = both_sound a.a.now a.b.now a.buffer.now a.start c.requires in
    let n = many (goal.at.list_found-requires c).After-decide_lists-found in (
      omega (arith, both.0.few, n),
      rw n (c.decide_lists-found.ensures.1 ∙ sym (length_told _ _ _ (λ k h. (c.decide_lists-found.ensures.0 k h).small))),
      start_within_law a.a.now a.b.now a.buffer.now a.start c.requires,
    )

pub returns : goal.returns
returns c =
    let a = c.args in
    let both = both_sound a.a.now a.b.now a.buffer.now a.start c.requires in
    let n = many (goal.at.returns c).After-decide_lists-found in
    found_rule a.a.now a.b.now a.buffer.now a.start c.requires both.1.few c.decide_lists-found.ensures.0 (rw (← n) c.list_found.ensures)
