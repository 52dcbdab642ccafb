-- `space::standings::exact_pattern` meets its contract: each level over the plane is told by its normal, from the first corner. Assumes nothing.
use mathlib.Core.Path.{◌∙◌}
use Prim.Native.Nat.{◌+◌, ◌*◌}
use native.Mathlib.Omega.{arith}
use Rattle.exact.specs.Vectors.{spatial}
use Rattle.exact.proofs.LevelLaws.{level_from_first}
use Rattle.space.proofs.standings.exact_pattern.Goals as goal

pub returns : goal.returns
returns c =
    let a = c.args in
    let n = c.requires.0.is in
    let over = level_from_first (spatial a.u.p) (spatial a.u.q) (spatial a.u.r) in
    let x = c.level_over.ensures.0 ∙ over (spatial a.t.p) n in
    let y = c.level_over-2.ensures.0 ∙ over (spatial a.t.q) n in
    let z = c.level_over-3.ensures.0 ∙ over (spatial a.t.r) n in
    (λ i. 9 * x i + 3 * y i + z i, omega (arith, c.level_over.ensures.1, c.level_over-2.ensures.1, c.level_over-3.ensures.1))
