-- The reasons for saying no that several calls share: document 01's table and order, with document 02's Q-1.
use Rattle.std.specs.Prelude.{cond, List, ℕ, ◌*◌, eqb, ltb, ℤ, length}
use Rattle.shape.specs.Points.{Shape, points_at}
use Rattle.shape.specs.Flat.{is_flat}
use Rattle.checks.specs.Answers.{refused, Check, fine, ◌then◌}
use Rattle.checks.specs.Grid.{lowest_off}

-- Reason 3: a list of the wrong length. The place is its length.
abbrev pub right_length : ℕ → ℕ → List ℤ → Check
right_length side want numbers = cond (eqb (length numbers) want) fine (refused 3 side (length numbers))

-- Reason 1: a coordinate off the grid. The place is the lowest such position.
abbrev pub all_on_grid : ℕ → List ℤ → Check
all_on_grid side numbers = cond (ltb (lowest_off numbers) (length numbers)) (refused 1 side (lowest_off numbers)) fine

-- Reason 2: a flat shape. It fills its list, so its index there, the place, is 0.
abbrev pub not_flat : ℕ → ℕ → Shape → Check
not_flat n side P = cond (is_flat n P) (refused 2 side 0) fine

-- Whether a call refuses flat shapes: the flat test and Place do; the calls in space take one as the segment or the point that it is.
pub data FlatShapes : Type 0 where
  refuses_flat : FlatShapes
  takes_flat : FlatShapes

-- Reason 2, where the call refuses flat shapes.
abbrev pub flat_checks : FlatShapes → ℕ → ℕ → Shape → Check
flat_checks refuses_flat n side P = not_flat n side P
flat_checks takes_flat n side P = fine

-- The numbers of a shape of k corners in n coordinates: 1, then 2 where flat shapes are refused.
abbrev pub shape_checks : FlatShapes → ℕ → ℕ → ℕ → List ℤ → Check
shape_checks flats n k side numbers = all_on_grid side numbers then flat_checks flats n side (points_at n k 0 numbers)

-- Two shapes in n coordinates, of k and of m corners, a list each: 3 of the first and of the second, then 1 and, where flat shapes are
-- refused, 2 of the first, then of the second.
abbrev pub pair_checks : FlatShapes → ℕ → ℕ → ℕ → List ℤ → List ℤ → Check
pair_checks flats n k m first second =
    right_length 0 (k * n) first then right_length 1 (m * n) second then shape_checks flats n k 0 first then shape_checks flats n m 1 second
