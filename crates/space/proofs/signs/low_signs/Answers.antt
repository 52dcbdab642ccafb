-- `space::signs::low_signs` meets its contract: its two tests are those of the decision. Assumes nothing.
use mathlib.Core.Path.{ap, ◌∙◌}
use Prim.Native.Nat.{ℕ}
use lib.Dec.{eqb}
use Rattle.exact.specs.Vectors.{spatial}
use Rattle.space.proofs.SpaceLaws.{level_told, low_told, neither}
use Rattle.space.proofs.signs.low_signs.Goals as goal

pub returns : goal.returns
returns c =
    let t = c.args.t in
    let u = c.args.u in
    let one = low_told c.vector.ensures c.low_level-one.ensures.0 c.requires.2 ∙ level_told (spatial t.p) (spatial t.q) (spatial u.p) (spatial u.q) c.requires.0 in
    let two = low_told c.vector-2.ensures c.low_level-two.ensures.0 c.requires.3 ∙ level_told (spatial t.p) (spatial t.r) (spatial u.r) (spatial u.p) c.requires.1 in
    neither (ap (λ (n : ℕ). eqb n 2) one) (ap (λ (n : ℕ). eqb n 2) two)
