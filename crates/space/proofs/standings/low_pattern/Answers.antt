-- `space::standings::low_pattern` meets its contract: each level over the plane is told by its normal, and by its low word. Assumes nothing.
use Prim.Native.Nat.{◌+◌, ◌*◌}
use native.Mathlib.Omega.{arith}
use Rattle.exact.specs.Vectors.{spatial}
use Rattle.space.proofs.SpaceLaws.{level_by_normal, low_told}
use Rattle.space.proofs.standings.low_pattern.Goals as goal

pub returns : goal.returns
returns c =
    let a = c.args in
    let n = c.requires.0 in
    let x = level_by_normal a.u n (spatial a.t.p) (low_told c.vector-v.ensures c.low_level.ensures.0 c.requires.1) in
    let y = level_by_normal a.u n (spatial a.t.q) (low_told c.vector-v.ensures c.low_level-2.ensures.0 c.requires.2) in
    let z = level_by_normal a.u n (spatial a.t.r) (low_told c.vector-v.ensures c.low_level-3.ensures.0 c.requires.3) in
    (λ i. 9 * x i + 3 * y i + z i, omega (arith, c.low_level.ensures.1, c.low_level-2.ensures.1, c.low_level-3.ensures.1))
