-- The tests in space of shapes that may be flat, as decisions by signs: two segments, a segment and a triangle, two triangles. A flat triangle is
-- the union of its edges, any two of which are enough, and a point is a segment with equal ends (proofs/Thin.antt), so that two segments are all
-- that is new. No public promise speaks of these tests; code computes them. proofs/WireTest.antt shows that each says yes exactly when the two
-- shapes have a point in common.
use Rattle.std.specs.Prelude.{Bool, true, false, not, cond, [], ◌∷◌, ℕ, eqb, ℤ, pos}
use Rattle.std.specs.Int.Signed.{lt_z}
use Rattle.shape.specs.Points.{Point, coord}
use Rattle.shape.specs.Signs.{turn}
use Rattle.shape.specs.Flat.{all_below, is_flat}
use Rattle.shape.specs.SpaceTest.{level, pattern, standing, by_standing, placed, without, in_plane_test, last_signs, segment_space_test}

-- ---- two segments p q and r s, whose ends may be equal
-- Whether both p and q are below r and below s.
abbrev pub both_below : (p q r s : ℤ) → Bool
both_below p q r s = cond (lt_z p r) (cond (lt_z p s) (cond (lt_z q r) (lt_z q s) false) false) false

-- Whether the stretch from p to q and that from r to s, whichever end is the lower, have a number in common.
abbrev pub stretches_meet : (p q r s : ℤ) → Bool
stretches_meet p q r s = cond (both_below p q r s) false (not (both_below r s p q))

-- Whether two numbers are strictly on one side of zero.
abbrev pub one_side : ℤ → ℤ → Bool
one_side x y = cond (lt_z (pos 0) x) (lt_z (pos 0) y) (cond (lt_z x (pos 0)) (lt_z y (pos 0)) false)

-- In the plane: whether c and d are strictly on one side of the line a b.
abbrev pub beside_line : (a b c d : Point) → Bool
beside_line a b c d = one_side (turn a b c) (turn a b d)

-- In the plane: whether neither segment is strictly on one side of the other's line.
abbrev pub lines_meet : (p q r s : Point) → Bool
lines_meet p q r s = cond (beside_line p q r s) false (not (beside_line r s p q))

-- The same of the shadows of two segments in space, without the coordinate k.
abbrev pub shadows_meet : ℕ → (p q r s : Point) → Bool
shadows_meet k p q r s = lines_meet (without k p) (without k q) (without k r) (without k s)

-- Two segments in space meet where their stretches do along each coordinate, they lie in one plane, and their shadows meet.
abbrev pub segments_test : (p q r s : Point) → Bool
segments_test p q r s =
    cond (all_below 3 (λ k. stretches_meet (coord k p) (coord k q) (coord k r) (coord k s)))
    (cond (eqb (level p q r s) 1) (all_below 3 (λ k. shadows_meet k p q r s)) false)
    false

-- ---- a segment or a triangle, and a triangle that may be flat
-- Whether one of two edges of a triangle passes a test of segments. Where the triangle is flat they are the whole of it.
abbrev pub either_edge : (Point → Point → Bool) → (a b c : Point) → Bool
either_edge test a b c = cond (test a b) true (test b c)

-- A segment p q and a triangle a b c.
abbrev pub segment_triangle_test : (p q a b c : Point) → Bool
segment_triangle_test p q a b c = cond (is_flat 3 (a ∷ b ∷ c ∷ [])) (either_edge (segments_test p q) a b c) (segment_space_test p q a b c)

-- Two triangles, the first in the plane of the second, or one of them flat: a flat one by its edges, the first before the second, and two that are
-- not flat by the flat test.
abbrev pub close_test : (p1 q1 r1 p2 q2 r2 : Point) → Bool
close_test p1 q1 r1 p2 q2 r2 =
    cond (is_flat 3 (p1 ∷ q1 ∷ r1 ∷ [])) (either_edge (λ a b. segment_triangle_test a b p2 q2 r2) p1 q1 r1)
    (cond (is_flat 3 (p2 ∷ q2 ∷ r2 ∷ [])) (either_edge (λ a b. segment_triangle_test a b p1 q1 r1) p2 q2 r2)
    (in_plane_test p1 q1 r1 p2 q2 r2))

-- One corner of the first triangle is alone: the first in its new order, and the second by its own standing.
abbrev pub crossing_test : (p1 q1 r1 p2 q2 r2 : Point) → ℕ → Bool → Bool
crossing_test p1 q1 r1 p2 q2 r2 turns1 swap2 =
    by_standing (standing (pattern p2 q2 r2 p1 q1 r1)) (close_test p2 q2 r2 p1 q1 r1)
    (λ turns2 swap1. placed turns1 swap1 (λ a b c. placed turns2 swap2 (last_signs a b c) p2 q2 r2) p1 q1 r1)

-- Two triangles. Every point is on the plane of a flat one, whose normal is zero, so that flat ones come to the close test by themselves.
abbrev pub triangles_test : (p1 q1 r1 p2 q2 r2 : Point) → Bool
triangles_test p1 q1 r1 p2 q2 r2 =
    by_standing (standing (pattern p1 q1 r1 p2 q2 r2)) (close_test p1 q1 r1 p2 q2 r2) (crossing_test p1 q1 r1 p2 q2 r2)
