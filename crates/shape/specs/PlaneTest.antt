-- The tests in the plane as decisions by signs: two triangles, and a segment and a triangle, after document 000, section 4.
-- No public promise speaks of them; code computes them. proofs/PlaneTest.antt shows that each says yes exactly when the two
-- shapes have a point in common.
use Rattle.std.specs.Prelude.{Bool, true, false, cond, pos}
use Rattle.std.specs.Int.Signed.{lt_z}
use Rattle.shape.specs.Points.{Point}
use Rattle.shape.specs.Signs.{turn}

-- Whether c lies strictly right of a → b.
abbrev pub is_right : Point → Point → Point → Bool
is_right a b c = lt_z (turn a b c) (pos 0)

-- ---- where the first corner stands
-- A test of a triangle that turns left, asked of a b c: where they turn right, two trade places.
abbrev pub in_left_order : (Point → Point → Point → Bool) → Point → Point → Point → Bool
in_left_order test a b c = cond (is_right a b c) (test a c b) (test a b c)

-- The point p sorted by its signs against the edges of the triangle a b c, which turns left. Strictly right of no edge, p is in
-- the triangle: yes. Right of one edge or of two (never of three), the triangle is turned so that they come last.
abbrev pub sorted : Point → (past_one past_two : Point → Point → Point → Bool) → Point → Point → Point → Bool
sorted p past_one past_two a b c =
    cond (is_right a b p)
    (cond (is_right b c p) (past_two c a b) (cond (is_right c a p) (past_two b c a) (past_one b c a)))
    (cond (is_right b c p)
    (cond (is_right c a p) (past_two a b c) (past_one c a b))
    (cond (is_right c a p) (past_one a b c) true))

-- ---- two triangles p1 q1 r1 and p2 q2 r2, both turning left
-- Where p1 → q1 passes beyond p2: p2 is in triangle 1.
abbrev pub corner_in : (p1 q1 r1 p2 : Point) → Bool
corner_in p1 q1 r1 p2 = cond (is_right p1 p2 r1) false (cond (is_right q1 r1 p2) false true)

-- The edges q1 → r1 and q2 → r2 cross.
abbrev pub last_edges : (q1 r1 q2 r2 : Point) → Bool
last_edges q1 r1 q2 r2 = cond (is_right q1 r1 q2) false (cond (is_right q2 r2 r1) false true)

-- p1 is strictly right of r2 → p2 and of no other edge.
abbrev pub triangle_past_one : (p1 q1 r1 p2 q2 r2 : Point) → Bool
triangle_past_one p1 q1 r1 p2 q2 r2 =
    cond (is_right r2 p2 q1)
    (cond (is_right r2 p2 r1) false
    (cond (is_right q1 r1 r2) false
    (cond (is_right p1 p2 r1) false true)))
    (cond (is_right p1 p2 q1) (corner_in p1 q1 r1 p2)
    (cond (is_right r2 p1 q1) false true))

-- p1 is strictly right of q2 → r2 and of r2 → p2.
abbrev pub triangle_past_two : (p1 q1 r1 p2 q2 r2 : Point) → Bool
triangle_past_two p1 q1 r1 p2 q2 r2 =
    cond (is_right r2 p2 q1)
    (cond (is_right r2 p2 r1) false
    (cond (is_right q1 r1 r2) (last_edges q1 r1 q2 r2)
    (cond (is_right p1 p2 r1) false true)))
    (cond (is_right q2 r2 q1)
    (cond (is_right q2 p1 q1) false (last_edges q1 r1 q2 r2))
    (cond (is_right p1 p2 q1) (corner_in p1 q1 r1 p2)
    (cond (is_right q2 p1 q1) false true)))

-- p1 sorted by its signs.
abbrev pub triangle_sorted : (p1 q1 r1 p2 q2 r2 : Point) → Bool
triangle_sorted p1 q1 r1 = sorted p1 (triangle_past_one p1 q1 r1) (triangle_past_two p1 q1 r1)

-- Two triangles, neither of them flat.
abbrev pub triangle_test : (p1 q1 r1 p2 q2 r2 : Point) → Bool
triangle_test p1 q1 r1 p2 q2 r2 = in_left_order (λ a b c. in_left_order (triangle_sorted a b c) p2 q2 r2) p1 q1 r1

-- ---- a segment p q and a triangle a b c that turns left
-- p is strictly right of c → a and of no other edge.
abbrev pub segment_past_one : (p q a b c : Point) → Bool
segment_past_one p q a b c =
    cond (is_right c a q) false (cond (is_right c p q) false (cond (is_right p a q) false true))

-- p is strictly right of b → c and of c → a.
abbrev pub segment_past_two : (p q a b c : Point) → Bool
segment_past_two p q a b c =
    cond (is_right b c q) false (cond (is_right c a q) false (cond (is_right p a q) false (cond (is_right b p q) false true)))

-- A segment and a triangle that is not flat.
abbrev pub segment_test : (p q a b c : Point) → Bool
segment_test p q a b c = in_left_order (sorted p (segment_past_one p q) (segment_past_two p q)) a b c
