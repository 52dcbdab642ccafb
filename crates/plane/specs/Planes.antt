-- The vocabulary of the leaves in src/meeting.rt: triangles of the plane as the code holds them, and the decisions of crate `shape`
-- (specs/PlaneTest.antt) on their corners.
use Rattle.std.specs.Prelude.{◌≡◌, Bool, true, cond}
use Rattle.shape.specs.Points.{Point}
use Rattle.shape.specs.PlaneTest.{is_right, sorted}
use Rattle.exact.specs.Vectors.{planar}
use Rattle.exact.specs.declared.points.PlanePoint.{PlanePoint}
use Rattle.exact.specs.declared.points.Triangle.{Triangle}
use Rattle.plane.specs.declared.meeting.Sorted.{Sorted}
use Rattle.plane.specs.declared.meeting.Sorted.TheVariants.{Inside, PastOne, PastTwo}

-- The corners of t are a, b and c.
pub record PlaneAt (a b c : Point) (t : Triangle PlanePoint) : Type 0 where
  pub at_p : planar t.p ≡ a
  pub at_q : planar t.q ≡ b
  pub at_r : planar t.r ≡ c

-- A decision on triangles as one on their corners.
abbrev pub of_corners : (Point → Point → Point → Bool) → Triangle PlanePoint → Bool
of_corners test t = test (planar t.p) (planar t.q) (planar t.r)

abbrev pub of_both : ((p1 q1 r1 p2 q2 r2 : Point) → Bool) → Triangle PlanePoint → Triangle PlanePoint → Bool
of_both test t = of_corners (test (planar t.p) (planar t.q) (planar t.r))

-- The corners turned by one.
abbrev pub turned_once : Triangle PlanePoint → Triangle PlanePoint
turned_once t = record { p = t.q; q = t.r; r = t.p }

-- The corners so that they turn left.
abbrev pub left_ordered : Triangle PlanePoint → Triangle PlanePoint
left_ordered t = cond (of_corners is_right t) (record { p = t.p; q = t.r; r = t.q }) (record { p = t.p; q = t.q; r = t.r })

-- The decision on a sorted triangle: by how many of its edges are past.
abbrev pub by_past : Sorted → (past_one past_two : Point → Point → Point → Bool) → Bool
by_past Inside past_one past_two = true
by_past (PastOne t) past_one past_two = of_corners past_one t
by_past (PastTwo t) past_one past_two = of_corners past_two t

-- The triangle t, sorted by the signs of the point p: whatever is decided past one edge and past two, s decides as p and t do.
pub record SortedAs (p : Point) (t : Triangle PlanePoint) (s : Sorted) : Type 0 where
  pub told : (past_one past_two : Point → Point → Point → Bool) → by_past s past_one past_two ≡ of_corners (sorted p past_one past_two) t
