-- How large coordinates can be. The types of src/points.rt keep these facts of their values, so that nothing here names a type of code. Words of the
-- inside: no public contract speaks of them.
use Rattle.std.specs.Prelude.{ℕ, ◌+◌, ◌*◌, ◌≤◌, List, ℤ, pos, slice_index_or, unsigned_abs}
use Rattle.shape.specs.Points.{Point, coord}
use Rattle.exact.specs.Grid.{limit}

-- No coordinate is larger than n, whatever its sign.
pub record Sized (n : ℕ) (a : Point) : Type 0 where
  pub each : (i : ℕ) → unsigned_abs (coord i a) ≤ n

-- Every number of a list is on the grid (past the end stands 0).
pub record OnGrid (numbers : List ℤ) : Type 0 where
  pub each : (i : ℕ) → unsigned_abs (slice_index_or numbers i (pos 0)) ≤ limit

-- The size of a difference of two coordinates of the grid, 2^31, and of a component of a normal, 2^62. That is a turn, the difference of two products of
-- up to 2^62 each; that it is no larger than one of them is `turn_size` in proofs/TurnSize.antt of crate `shape`.
abbrev pub difference_size : ℕ
difference_size = limit + limit

abbrev pub minor_size : ℕ
minor_size = difference_size * difference_size

-- The largest size of a normal's components for which its three products with differences of up to 2^31 add up to less than 2^63 in size, whatever their
-- signs: 3 * 1431655765 * 2^31 is below 2^63. With one more they might not.
abbrev pub narrow_size : ℕ
narrow_size = 1431655765
