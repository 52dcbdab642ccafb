-- `sifting::rows::Sieve::joined_of` meets its contract: a bit that the last row and the rows so far have is set. Assumes nothing.
use mathlib.Core.Path.{◌≡◌}
use mathlib.Core.Bool.{true}
use Prim.Native.Nat.{ℕ, ◌+◌, ◌*◌, ◌≤◌, ◌<◌}
use lib.ListN.{get_or}
use Rattle.words.specs.Bits.{bit}
use Rattle.sifting.proofs.tables.Sieve.joined_of.Given as goal

abbrev pub invariant-loop-row : goal.invariant-loop-row
invariant-loop-row l =
    (l.some ≤ get_or l.self.words (1536 + l.w) 0)
    × ((t : ℕ) → bit t (get_or l.self.words (1536 + l.w) 0) ≡ true → ((d : ℕ) → d < l.row-index → bit t (get_or l.self.words (16 * get_or l.row-items d 0 + l.w) 0) ≡ true) → bit t l.some ≡ true)
