-- From the tests in space to the definition. Assumes nothing.
use mathlib.Core.Path.{◌≡◌, sym, subst}
use mathlib.Core.Bool.{Bool}
use mathlib.Core.List.{List}
use lib.IntN.{ℤ}
use Rattle.shape.specs.WireTest.{segment_triangle_test, triangles_test}
use Rattle.shape.proofs.WireTest.{segment_triangle_test_law, triangles_test_law}
use Rattle.space.specs.Spaces.{of_segment, of_lists}
use Rattle.kernel.specs.Meeting.{Judges}

-- Two triangles, decided by the test: it is right.
pub judged : (first second : List ℤ) {r : Bool} → r ≡ of_lists triangles_test first second → Judges 3 3 3 first second r
judged first second e = subst (λ (v : Bool). Judges 3 3 3 first second v) (sym e) (triangles_test_law _ _ _ _ _ _)

-- A segment and a triangle.
pub segment_judged : (first second : List ℤ) {r : Bool} → r ≡ of_segment segment_triangle_test first second → Judges 3 2 3 first second r
segment_judged first second e = subst (λ (v : Bool). Judges 3 2 3 first second v) (sym e) (segment_triangle_test_law _ _ _ _ _)
