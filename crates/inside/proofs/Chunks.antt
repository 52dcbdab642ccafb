-- The triangles of a list of numbers on the grid, nine numbers each, are lists that passed their checks. Assumes nothing.
use Rattle.std.proofs.Common.{ℕ, zero, suc, ◌*◌, ◌/◌, ◌≤◌, List, length, drop, ℤ, arith}
use Rattle.std.specs.List.{All}
use Rattle.std.specs.Simd.{first_chunks}
use Rattle.std.proofs.lemmas.List.{length-take-le, length-drop}
use Rattle.exact.specs.Grid.{Ready, limit}
use Rattle.exact.specs.Sizes.{OnGrid}
use Rattle.exact.proofs.GridLaws.{small_taken, small_dropped}

chunks_ready : (n : ℕ) (l : List ℤ) → 9 * n ≤ length l → OnGrid l → All (Ready 9) (first_chunks 9 n l)
chunks_ready zero l h g k d below = absurd (omega arith)
chunks_ready (suc n) l h g zero d below = record { long = length-take-le 9 l (omega arith); each = small_taken limit 9 l g.each }
chunks_ready (suc n) l h g (suc k) d below =
    chunks_ready n (drop 9 l) (omega (arith, length-drop 9 l)) (record { each = small_dropped limit 9 l g.each }) k d (omega arith)

pub all_ready : (l : List ℤ) → OnGrid l → All (Ready 9) (first_chunks 9 (length l / 9) l)
all_ready l g = chunks_ready (length l / 9) l (omega arith) g
