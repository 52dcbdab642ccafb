-- `words::bits::Bits::next` meets its contract: a word that is not 0 has a bit that is set among its 64, and the word and the number before it have all
-- bits in common but the lowest that is set, and none below it. Assumes nothing.
use Prim.Native.Nat.{◌^◌, ◌<◌}
use native.Mathlib.Omega.{arith}
use Rattle.words.proofs.LowestLaws.{lowest_taken, lowest_within}
use Rattle.words.proofs.bits.BitsIterator.next.Goals as goal

pub returns-clause-steps : goal.returns-clause-steps
returns-clause-steps c =
    let word = c.args.self.now.0 in
    let small : word < 2 ^ 64 = omega arith in
    let low = lowest_taken 64 word c.if-self-eq0.false small in
    record { within = lowest_within low 64 small; lowest = low }
