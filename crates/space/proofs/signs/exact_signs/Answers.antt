-- `space::signs::exact_signs` meets its contract: its two tests are those of the decision. Assumes nothing.
use mathlib.Core.Path.{ap, ◌∙◌}
use Prim.Native.Nat.{ℕ}
use lib.Dec.{eqb}
use Rattle.exact.specs.Vectors.{spatial}
use Rattle.exact.proofs.LevelLaws.{level_from_first}
use Rattle.space.proofs.SpaceLaws.{neither}
use Rattle.space.proofs.signs.exact_signs.Goals as goal

pub returns : goal.returns
returns c =
    let t = c.args.t in
    let u = c.args.u in
    let one = c.level_over-first.ensures.0 ∙ level_from_first (spatial t.p) (spatial t.q) (spatial u.p) (spatial u.q) c.requires.0 in
    let two = c.level_over-second.ensures.0 ∙ level_from_first (spatial t.p) (spatial t.r) (spatial u.r) (spatial u.p) c.requires.1 in
    neither (ap (λ (n : ℕ). eqb n 2) one) (ap (λ (n : ℕ). eqb n 2) two)
