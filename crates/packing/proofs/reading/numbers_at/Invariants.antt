-- `packing::reading::numbers_at` meets its contract: the first k numbers are read, and the others are still the old ones. Assumes nothing.
use mathlib.Core.Path.{◌≡◌}
use lib.ListN.{length, drop}
use Rattle.algebra.proofs.Copying.{over}
use Rattle.packing.specs.Reading.{numbers_in}
use Rattle.packing.proofs.reading.numbers_at.Given as goal

abbrev pub invariant-loop-k : goal.invariant-loop-k
invariant-loop-k l = l.numbers ≡ over l.fn.numbers (numbers_in (length l.fn.numbers) (drop l.at l.bytes)) l.k
