-- `sifting::bits::word_where` meets its contract: the bits from t on are kept, and the one before them becomes the lowest. Assumes nothing.
use mathlib.Core.Path.{◌≡◌}
use Prim.Native.Nat.{suc, ◌-◌}
use native.Mathlib.Omega.{arith}
use Rattle.words.proofs.BitLaws.{one_more_small}
use Rattle.sifting.proofs.TableLaws.{one_more_bit}
use Rattle.sifting.proofs.bits.word_where.Goals as goal

pub loop-t-preserved : goal.loop-t-preserved
loop-t-preserved g c =
    let l = c.loop-t in
    let n = c.args.count - l.t in
    let v = c.test.result in
    let more : c.args.count - (l.t - 1) ≡ suc n = omega (arith, c.loop-t-test.true, l.auto.t) in
    let next : suc (l.t - 1) ≡ l.t = omega (arith, c.loop-t-test.true) in
    (rw more (one_more_small n l.bits v l.invariant.0), rw more (one_more_bit (λ s told. goal.F-post g c.args.test s told) (l.t - 1) n l.bits v (rw next l.invariant.1) c.test.ensures))
