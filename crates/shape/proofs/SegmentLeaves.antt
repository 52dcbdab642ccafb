-- A segment p q and a triangle a b c that turns left, in the plane, p strictly right of one edge or of two: each answer of
-- `segment_past_one` and `segment_past_two` (specs/PlaneTest.antt) with its certificate, as in TriangleLeaves.antt. Assumes nothing.
use mathlib.Core.Bool.{false}
use mathlib.Core.List.{[], ◌∷◌}
use mathlib.Core.Logic.{◌⊎◌, inl, inr}
use lib.IntN.{pos}
use Rattle.algebra.proofs.Order.{le_of_lt, lt_or_ge}
use Rattle.shape.specs.Points.{Point, Shape}
use Rattle.shape.specs.Signs.{turn}
use Rattle.shape.specs.Sharing.{Share}
use Rattle.shape.specs.Verdicts.{Says}
use Rattle.shape.specs.PlaneTest.{segment_past_one, segment_past_two}
use Rattle.shape.proofs.Trading.{first, second, third, among_itself, share_trade, share_among}
use Rattle.shape.proofs.Weights.{Every}
use Rattle.shape.proofs.Witnesses.{segments_cross}
use Rattle.shape.proofs.VerdictLaws.{says_yes, says_no, says_by_sign}
use Rattle.shape.proofs.Edges.{Right, NotRight, Left, NotLeft, right_on, right_back, right_carries, all_right, all_left, not_right_on, not_right_mirrored, beside_line_law, along, against, beside_second, beside_third}

-- p is strictly right of c → a, and not of a → b.
module _ (p q a b c : Point) (left : Left a b c) (inner : NotRight a b p) (past : Right c a p) where
  abbrev S : Shape
  S = p ∷ q ∷ []

  abbrev T : Shape
  T = a ∷ b ∷ c ∷ []

  abbrev Meet : Type 0
  Meet = Share 2 S T

  -- ---- the lines, and the crossings
  outside_ca : Right c a q → Says false Meet
  outside_ca h = says_no (λ meet. beside_third a b c left S (past, (h, tt)) (share_trade meet))

  right_of_pq : Every (Right p q) T → Says false Meet
  right_of_pq h = says_no (beside_line_law p q S T (along p q) h)

  left_of_pq : NotRight c a q → Right p a q → Says false Meet
  left_of_pq back h = says_no (beside_line_law q p S T (against p q) (all_left p q a b c left past back inner (right_back p a q h)))

  crosses_ca : NotRight c a q → NotRight p q c → NotLeft p q a → Meet
  crosses_ca h hc ha =
      share_among {P = S} {Q = c ∷ a ∷ []} (among_itself S) (third, (first, tt)) (segments_cross p q c a past h hc ha)

  -- ---- p is past c → a alone
  pub past_one : NotRight b c p → Says (segment_past_one p q a b c) Meet
  past_one other =
      says_by_sign (turn c a q) outside_ca
      (λ back. says_by_sign (turn c p q) (λ h. right_of_pq (all_right p q a b c left past back other (right_on c p q h)))
      (λ near. says_by_sign (turn p a q) (left_of_pq back)
      (λ h. says_yes (crosses_ca back (not_right_on c p q near) (not_right_mirrored p a q h)))))

  -- ---- p is past b → c as well
  pub past_two : Right b c p → Says (segment_past_two p q a b c) Meet
  past_two other =
      says_by_sign (turn b c q) outside_bc
      (λ on. says_by_sign (turn c a q) outside_ca
      (λ back. says_by_sign (turn p a q) (left_of_pq back)
      (λ near. says_by_sign (turn b p q) (right_side on back) (λ h. says_yes (crosses on back near h (lt_or_ge (turn p q c) (pos 0)))))))
    where
      outside_bc : Right b c q → Says false Meet
      outside_bc h = says_no (λ meet. beside_second a b c left S (other, (h, tt)) (share_trade meet))

      right_side : NotRight b c q → NotRight c a q → Right b p q → Says false Meet
      right_side on back h =
          let at_b : Right p q b = right_on b p q h in
          let at_c : Right p q c = right_carries b c p q other on at_b in
          right_of_pq (right_carries c a p q past back at_c, (at_b, (at_c, tt)))

      crosses : NotRight b c q → NotRight c a q → NotRight p a q → NotRight b p q → (Right p q c) ⊎ (NotRight p q c) → Meet
      crosses on back near h (inl g) =
          share_among {P = S} {Q = b ∷ c ∷ []} (among_itself S) (second, (third, tt))
          (segments_cross p q b c other on (not_right_on b p q h) (le_of_lt g))
      crosses on back near h (inr g) =
          crosses_ca back g (not_right_mirrored p a q near)
