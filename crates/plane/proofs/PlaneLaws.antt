-- What the proofs of the tests in the plane share: triangles in left-turn order, and sorted. Assumes nothing.
use mathlib.Core.Path.{◌≡◌, refl, ap, ◌∙◌}
use mathlib.Core.Bool.{Bool, true, false, cond}
use Rattle.shape.specs.Points.{Point}
use Rattle.shape.specs.PlaneTest.{is_right, in_left_order, sorted, triangle_past_one, triangle_past_two, triangle_sorted, triangle_test, segment_past_one, segment_past_two, segment_test}
use Rattle.exact.specs.Vectors.{planar}
use Rattle.plane.specs.Planes.{SortedAs, left_ordered, by_past, of_corners, of_both}
use Rattle.exact.specs.declared.points.PlanePoint.{PlanePoint}
use Rattle.exact.specs.declared.points.Triangle.{Triangle}
use Rattle.plane.specs.declared.meeting.Sorted.{Sorted}

module _ (t : Triangle PlanePoint) where
  abbrev ordered_by : Bool → Triangle PlanePoint
  ordered_by right = cond right (record { p = t.p; q = t.r; r = t.q }) (record { p = t.p; q = t.q; r = t.r })

  -- A test of the triangle in left-turn order is one of the triangle.
  pub test_ordered : (test : Point → Point → Point → Bool) → of_corners test (left_ordered t) ≡ of_corners (in_left_order test) t
  test_ordered test = either (of_corners is_right t)
    where
      either : (right : Bool) → of_corners test (ordered_by right)
          ≡ cond right (test (planar t.p) (planar t.r) (planar t.q)) (test (planar t.p) (planar t.q) (planar t.r))
      either true = refl
      either false = refl

-- So is the test of two triangles in that order.
both_ordered : (t u : Triangle PlanePoint) {first second : Triangle PlanePoint} → first ≡ left_ordered t → second ≡ left_ordered u →
    of_both triangle_sorted first second ≡ of_both triangle_test t u
both_ordered t u e f =
    (λ i. of_both triangle_sorted (e i) (f i))
    ∙ test_ordered t (λ a b c. of_corners (triangle_sorted a b c) (left_ordered u))
    ∙ (λ i. of_corners (in_left_order (λ a b c. test_ordered u (triangle_sorted a b c) i)) t)

-- And of a segment p q and a triangle in that order.
segment_ordered : (p q : Point) (t : Triangle PlanePoint) {ordered : Triangle PlanePoint} → ordered ≡ left_ordered t →
    of_corners (sorted p (segment_past_one p q) (segment_past_two p q)) ordered ≡ of_corners (segment_test p q) t
segment_ordered p q t e =
    ap (of_corners (sorted p (segment_past_one p q) (segment_past_two p q))) e ∙ test_ordered t (sorted p (segment_past_one p q) (segment_past_two p q))

-- ---- the verdict by a sorted triangle
-- Two triangles, both in left-turn order and the second sorted by the first corner of the first.
pub triangles_told : (t u : Triangle PlanePoint) {first second : Triangle PlanePoint} {s : Sorted} → first ≡ left_ordered t → second ≡ left_ordered u →
    SortedAs (planar first.p) second s →
    by_past s (triangle_past_one (planar first.p) (planar first.q) (planar first.r)) (triangle_past_two (planar first.p) (planar first.q) (planar first.r))
    ≡ of_both triangle_test t u
triangles_told t u e f so = so.told _ _ ∙ both_ordered t u e f

-- A segment p q, and a triangle in left-turn order and sorted by p.
pub segment_told : (p q : Point) (t : Triangle PlanePoint) {ordered : Triangle PlanePoint} {s : Sorted} → ordered ≡ left_ordered t → SortedAs p ordered s →
    by_past s (segment_past_one p q) (segment_past_two p q) ≡ of_corners (segment_test p q) t
segment_told p q t e so = so.told _ _ ∙ segment_ordered p q t e
