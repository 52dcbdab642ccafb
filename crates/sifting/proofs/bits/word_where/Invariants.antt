-- `sifting::bits::word_where` meets its contract: the bits from t on are kept, and the one before them becomes the lowest. Assumes nothing.
use Rattle.std.proofs.Common.{ℕ, ◌+◌, ◌-◌, ◌^◌, ◌<◌}
use Rattle.words.specs.Bits.{bit}
use Rattle.sifting.proofs.bits.word_where.Given as goal

abbrev pub invariant-loop-t : goal.invariant-loop-t
invariant-loop-t g l = (l.bits < 2 ^ (l.count - l.t)) × ((s : ℕ) → s < l.count - l.t → goal.F-post g l.test (l.t + s) (bit s l.bits))
