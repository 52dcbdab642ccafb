-- The three witnesses of a common point that the tests use, each an instance of `meet_by_dependence`: a point in a triangle
-- and two segments that cross, in the plane, and a segment through a triangle, in space. Assumes nothing.
use mathlib.Core.Path.{refl}
use mathlib.Core.List.{List, [], ◌∷◌}
use lib.IntN.{ℤ, pos}
use lib.Signed.{◌≤ℤ◌, ◌<ℤ◌}
use Rattle.algebra.proofs.Expression.{◌⊞◌, neg}
use Rattle.algebra.proofs.Certificate.{◌≦◌, ◌≺◌, hyp, num, ◌⊕◌, prove≤, prove<}
use Rattle.shape.specs.Points.{Point}
use Rattle.shape.specs.Signs.{turn, side}
use Rattle.shape.specs.Sharing.{Share}
use Rattle.shape.proofs.Symbols.{values, O, turn_e, side_e}
use Rattle.shape.proofs.Dependence.{plane_dependence, space_dependence, meet_by_dependence}

-- The point p lies in the left-turning triangle a b c: it is strictly right of no edge.
pub point_in_triangle : (p a b c : Point) → pos 0 <ℤ turn a b c →
    pos 0 ≤ℤ turn a b p → pos 0 ≤ℤ turn b c p → pos 0 ≤ℤ turn c a p → Share 2 (p ∷ []) (a ∷ b ∷ c ∷ [])
point_in_triangle p a b c left ab bc ca =
    meet_by_dependence (p ∷ []) (a ∷ b ∷ c ∷ []) (plane_dependence p a b c)
    (prove≤ ρ ((O ≺ turn_e 1 2 3) ∷ []) O (turn_e 1 2 3) (num 1) (hyp 0) tt tt refl left, tt) (
      prove≤ ρ ((O ≦ turn_e 2 3 0) ∷ []) O (neg (neg (turn_e 0 2 3))) (num 1) (hyp 0) tt tt refl bc,
      (
        prove≤ ρ ((O ≦ turn_e 3 1 0) ∷ []) O (neg (neg (neg (turn_e 0 1 3)))) (num 1) (hyp 0) tt tt refl ca,
        (prove≤ ρ ((O ≦ turn_e 1 2 0) ∷ []) O (neg (neg (neg (neg (turn_e 0 1 2))))) (num 1) (hyp 0) tt tt refl ab, tt),
      ),
    )
    (prove< ρ ((O ≺ turn_e 1 2 3) ∷ []) O (turn_e 1 2 3 ⊞ O) (num 1) (hyp 0) tt tt refl left)
  where
    ρ : List ℤ
    ρ = values (p ∷ a ∷ b ∷ c ∷ [])

-- The segment a b goes from strictly right of c → d to its other side or onto it, and passes between c and d.
pub segments_cross : (a b c d : Point) → turn c d a <ℤ pos 0 → pos 0 ≤ℤ turn c d b →
    pos 0 ≤ℤ turn a b c → turn a b d ≤ℤ pos 0 → Share 2 (a ∷ b ∷ []) (c ∷ d ∷ [])
segments_cross a b c d cda cdb abc abd =
    meet_by_dependence (a ∷ b ∷ []) (c ∷ d ∷ []) (plane_dependence a b c d) (
      prove≤ ρ ((O ≦ turn_e 2 3 1) ∷ []) O (turn_e 1 2 3) (num 1) (hyp 0) tt tt refl cdb,
      (prove≤ ρ ((turn_e 2 3 0 ≺ O) ∷ []) O (neg (turn_e 0 2 3)) (num 1) (hyp 0) tt tt refl cda, tt),
    ) (
      prove≤ ρ ((turn_e 0 1 3 ≦ O) ∷ []) O (neg (neg (neg (turn_e 0 1 3)))) (num 1) (hyp 0) tt tt refl abd,
      (prove≤ ρ ((O ≦ turn_e 0 1 2) ∷ []) O (neg (neg (neg (neg (turn_e 0 1 2))))) (num 1) (hyp 0) tt tt refl abc, tt),
    )
    (prove< ρ ((O ≦ turn_e 2 3 1) ∷ (turn_e 2 3 0 ≺ O) ∷ []) O (turn_e 1 2 3 ⊞ (neg (turn_e 0 2 3) ⊞ O)) (num 1) (hyp 0 ⊕ hyp 1) tt tt refl cdb cda)
  where
    ρ : List ℤ
    ρ = values (a ∷ b ∷ c ∷ d ∷ [])

-- The segment p q goes down through the plane of a b c, or ends on it, and passes no edge of the triangle on the outside.
pub segment_through_triangle : (p q a b c : Point) → pos 0 ≤ℤ side a b c p → side a b c q ≤ℤ pos 0 → side a b c q <ℤ side a b c p →
    side p q b c ≤ℤ pos 0 → side p q c a ≤ℤ pos 0 → side p q a b ≤ℤ pos 0 → Share 3 (p ∷ q ∷ []) (a ∷ b ∷ c ∷ [])
segment_through_triangle p q a b c above below apart bc ca ab =
    meet_by_dependence (p ∷ q ∷ []) (a ∷ b ∷ c ∷ []) (space_dependence p q a b c) (
      prove≤ ρ ((side_e 2 3 4 1 ≦ O) ∷ []) O (side_e 1 2 3 4) (num 1) (hyp 0) tt tt refl below,
      (prove≤ ρ ((O ≦ side_e 2 3 4 0) ∷ []) O (neg (side_e 0 2 3 4)) (num 1) (hyp 0) tt tt refl above, tt),
    ) (
      prove≤ ρ ((side_e 0 1 3 4 ≦ O) ∷ []) O (neg (neg (neg (side_e 0 1 3 4)))) (num 1) (hyp 0) tt tt refl bc,
      (
        prove≤ ρ ((side_e 0 1 4 2 ≦ O) ∷ []) O (neg (neg (neg (neg (side_e 0 1 2 4))))) (num 1) (hyp 0) tt tt refl ca,
        (prove≤ ρ ((side_e 0 1 2 3 ≦ O) ∷ []) O (neg (neg (neg (neg (neg (side_e 0 1 2 3)))))) (num 1) (hyp 0) tt tt refl ab, tt),
      ),
    )
    (prove< ρ ((side_e 2 3 4 1 ≺ side_e 2 3 4 0) ∷ []) O (side_e 1 2 3 4 ⊞ (neg (side_e 0 2 3 4) ⊞ O)) (num 1) (hyp 0) tt tt refl apart)
  where
    ρ : List ℤ
    ρ = values (p ∷ q ∷ a ∷ b ∷ c ∷ [])
