-- `sifting::tables::Sieve::put_last_row` meets its contract: the words before w are written. Assumes nothing.
use mathlib.Core.Path.{◌≡◌}
use Prim.Native.Nat.{ℕ, ◌-◌, ◌*◌, ◌^◌, ◌<◌}
use lib.ListN.{get_or}
use Rattle.words.specs.Spans.{span}
use Rattle.sifting.proofs.tables.Sieve.put_last_row.Given as goal

abbrev pub invariant-loop-w : goal.invariant-loop-w
invariant-loop-w l = (v : ℕ) → v < l.w → get_or l.word-items v 0 ≡ 2 ^ span l.many (v * 64) - 1
