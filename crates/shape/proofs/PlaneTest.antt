-- The tests in the plane (specs/PlaneTest.antt) say yes exactly when the two shapes have a point in common: two triangles, and
-- a segment and a triangle. Sorting a point against a triangle and the left-turn order are argued once for both. Assumes
-- nothing.
use mathlib.Core.Path.{refl}
use mathlib.Core.Bool.{Bool}
use mathlib.Core.List.{[], ◌∷◌}
use mathlib.Core.Logic.{inl}
use lib.Signed.{clash_ℤ}
use Rattle.algebra.proofs.Order.{ThreeWay, minus, none, plus, three_way}
use Rattle.algebra.proofs.Certificate.{hyp, num, ◌⊕◌, prove≤}
use Rattle.shape.specs.Points.{Point, Shape}
use Rattle.shape.specs.Signs.{turn}
use Rattle.shape.specs.Sharing.{Share}
use Rattle.shape.specs.Flat.{Flat}
use Rattle.shape.specs.Verdicts.{Says}
use Rattle.shape.specs.PlaneTest.{in_left_order, sorted, triangle_past_one, triangle_past_two, triangle_sorted, triangle_test, segment_past_one, segment_past_two, segment_test}
use Rattle.shape.proofs.Symbols.{values, O, turn_e}
use Rattle.shape.proofs.Trading.{In, first, among_itself, share_trade, share_among, share_turned, share_turned_twice}
use Rattle.shape.proofs.Witnesses.{point_in_triangle}
use Rattle.shape.proofs.FlatLaws.{flat_in_plane}
use Rattle.shape.proofs.VerdictLaws.{says_yes, says_by_sign, says_same}
use Rattle.shape.proofs.PlaneSteps.{left_order_step}
use Rattle.shape.proofs.Edges.{Right, NotRight, Left, right_e, left_e, left_on, left_back}
use Rattle.shape.proofs.TriangleLeaves as triangle
use Rattle.shape.proofs.SegmentLeaves as segment

-- ---- a corner p of P sorted against a triangle that turns left
-- Strictly right of two edges, p is not right of the third: the three turns add up to the triangle's own.
third_edge : (p a b c : Point) → Left a b c → Right a b p → Right b c p → NotRight c a p
third_edge p a b c =
    prove≤ (values (p ∷ a ∷ b ∷ c ∷ [])) (left_e 1 2 3 ∷ right_e 1 2 0 ∷ right_e 2 3 0 ∷ []) O (turn_e 3 1 0)
    (num 1) (hyp 0 ⊕ hyp 1 ⊕ hyp 2) tt tt refl

module _ (P : Shape) (p : Point) (of_P : In p P) (one two : Point → Point → Point → Bool)
    (past_one : (a b c : Point) → Left a b c → NotRight a b p → Right c a p → NotRight b c p → Says (one a b c) (Share 2 P (a ∷ b ∷ c ∷ [])))
    (past_two : (a b c : Point) → Left a b c → NotRight a b p → Right c a p → Right b c p → Says (two a b c) (Share 2 P (a ∷ b ∷ c ∷ []))) where
  says_sorted : (a b c : Point) → Left a b c → Says (sorted p one two a b c) (Share 2 P (a ∷ b ∷ c ∷ []))
  says_sorted a b c left =
      says_by_sign (turn a b p)
      (λ ab. says_by_sign (turn b c p)
      (λ bc. says_same (share_turned_twice P a b c) (past_two c a b (left_back a b c left) (third_edge p a b c left ab bc) bc ab))
      (λ bc. says_same (share_turned P a b c) (says_by_sign (turn c a p)
      (past_two b c a (left_on a b c left) bc ab)
      (past_one b c a (left_on a b c left) bc ab))))
      (λ ab. says_by_sign (turn b c p)
      (λ bc. says_by_sign (turn c a p)
      (λ ca. past_two a b c left ab ca bc)
      (λ ca. says_same (share_turned_twice P a b c) (past_one c a b (left_back a b c left) ca bc ab)))
      (λ bc. says_by_sign (turn c a p)
      (λ ca. past_one a b c left ab ca bc)
      (λ ca. says_yes (share_among (of_P, tt) (among_itself (a ∷ b ∷ c ∷ [])) (point_in_triangle p a b c left ab bc ca)))))

-- ---- the left-turn order
-- A triangle that is not flat and does not turn right turns left.
turns_left : (a b c : Point) → (Flat 2 (a ∷ b ∷ c ∷ []) → ⊥) → NotRight a b c → Left a b c
turns_left a b c never_flat not_right = by_sign (three_way (turn a b c))
  where
    by_sign : ThreeWay (turn a b c) → Left a b c
    by_sign (minus h) = clash_ℤ h not_right
    by_sign (none e) = absurd (never_flat ((flat_in_plane a b c).1 e))
    by_sign (plus h) = h

says_in_left_order : (P : Shape) (test : Point → Point → Point → Bool) →
    ((a b c : Point) → Left a b c → Says (test a b c) (Share 2 P (a ∷ b ∷ c ∷ []))) →
    (a b c : Point) → (Flat 2 (a ∷ b ∷ c ∷ []) → ⊥) → Says (in_left_order test a b c) (Share 2 P (a ∷ b ∷ c ∷ []))
says_in_left_order P test says a b c never_flat = left_order_step P test says a b c (turns_left a b c never_flat)

-- ---- the tests
-- Two triangles in the plane, neither flat.
pub triangle_test_law : (p1 q1 r1 p2 q2 r2 : Point) → (Flat 2 (p1 ∷ q1 ∷ r1 ∷ []) → ⊥) → (Flat 2 (p2 ∷ q2 ∷ r2 ∷ []) → ⊥) →
    Says (triangle_test p1 q1 r1 p2 q2 r2) (Share 2 (p1 ∷ q1 ∷ r1 ∷ []) (p2 ∷ q2 ∷ r2 ∷ []))
triangle_test_law p1 q1 r1 p2 q2 r2 not-flat-1 not-flat-2 =
    says_same (share_trade, share_trade)
    (says_in_left_order (p2 ∷ q2 ∷ r2 ∷ []) (λ a b c. in_left_order (triangle_sorted a b c) p2 q2 r2)
    (λ a b c left. says_same (share_trade, share_trade) (second_in_order a b c left)) p1 q1 r1 not-flat-1)
  where
    second_in_order : (a b c : Point) → Left a b c →
        Says (in_left_order (triangle_sorted a b c) p2 q2 r2) (Share 2 (a ∷ b ∷ c ∷ []) (p2 ∷ q2 ∷ r2 ∷ []))
    second_in_order a b c left =
        says_in_left_order (a ∷ b ∷ c ∷ []) (triangle_sorted a b c)
        (says_sorted (a ∷ b ∷ c ∷ []) a first (triangle_past_one a b c) (triangle_past_two a b c)
        (λ x y z left2 inner past. triangle.past_one a b c x y z left left2 inner past)
        (λ x y z left2 inner past. triangle.past_two a b c x y z left left2 inner past))
        p2 q2 r2 not-flat-2

-- A segment, flat or not, and a triangle that is not flat, in the plane.
pub segment_test_law : (p q a b c : Point) → (Flat 2 (a ∷ b ∷ c ∷ []) → ⊥) → Says (segment_test p q a b c) (Share 2 (p ∷ q ∷ []) (a ∷ b ∷ c ∷ []))
segment_test_law p q =
    says_in_left_order (p ∷ q ∷ []) (sorted p (segment_past_one p q) (segment_past_two p q))
    (says_sorted (p ∷ q ∷ []) p (inl refl) (segment_past_one p q) (segment_past_two p q) (segment.past_one p q) (segment.past_two p q))
