-- `deciding::deciding::put_all_candidates` meets its contract: the boxes of both lists, as many as their triangles, are known when they are sifted.
-- Assumes nothing.
use mathlib.Core.Path.{◌≡◌}
use Prim.Native.Nat.{◌/◌}
use lib.ListN.{length}
use Rattle.boxes.specs.Triangles.{triangles}
use Rattle.deciding.proofs.WordLaws.{may_meet}
use Rattle.std.proofs.Common.{rules}
use Rattle.deciding.proofs.deciding.put_all_candidates.Goals as goal

pub returns : goal.returns
returns c =
    let a = c.args in
    let bounds = c.put_boxes.new.boxes in
    let boxes = c.put_boxes-2.new.boxes in
    let as_long = c.put_boxes.auto.boxes in
    let few = c.requires.0.few in
    let as_long-2 = c.put_boxes-2.auto.boxes in
    let few-2 = c.requires.1.few in
    let n : length bounds / 6 ≡ triangles a.first.now = search (rules, as_long, few) in
    let m : length boxes / 6 ≡ triangles a.second.now = search (rules, as_long-2, few-2) in
    may_meet a.first.now a.second.now bounds boxes c.put_candidates.new.words c.put_boxes.ensures c.put_boxes-2.ensures
    (rw (← n, ← m) c.put_candidates.ensures)
