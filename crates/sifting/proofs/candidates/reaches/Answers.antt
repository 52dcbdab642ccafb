-- `sifting::candidates::reaches` meets its contract: a box that is reached is not apart. Assumes nothing.
use mathlib.Core.Path.{ap, ◌∙◌}
use mathlib.Core.Bool.{not}
use Prim.Native.Nat.{◌*◌}
use Rattle.algebra.proofs.Parts.{part}
use Rattle.boxes.specs.Boxes.{boxes_apart, six}
use Rattle.sifting.proofs.EndLaws.{reaching_boxes}
use Rattle.sifting.proofs.candidates.reaches.Goals as goal

pub returns : goal.returns
returns c =
    let a = c.args in
    λ reached. ap not
    (c.boxes_apart.ensures
    ∙ ap (boxes_apart a.bounds.now) (part (6 * a.j) 6 a.boxes.now)
    ∙ reaching_boxes a.bounds.now (six a.j a.boxes.now) reached)
