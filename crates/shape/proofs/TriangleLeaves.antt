-- Two triangles in the plane that turn left, p1 strictly right of one edge of the second or of two: each answer of
-- `triangle_past_one` and `triangle_past_two` (specs/PlaneTest.antt) with its certificate. A "no" names a line with one triangle
-- strictly right of it, and derives the signs that the tests did not take; a "yes" names a corner in a triangle or two edges
-- that cross. A derived sign is one line: the facts it follows from, and s and c with s · (the sign's gap) = c. Assumes nothing.
use mathlib.Core.Path.{refl}
use mathlib.Core.Bool.{Bool, true, false, cond}
use mathlib.Core.List.{List, [], ◌∷◌, ◌++◌}
use mathlib.Core.Logic.{◌⊎◌, inl, inr}
use lib.IntN.{ℤ, pos}
use Rattle.algebra.proofs.Order.{weak, le_of_lt, lt_or_ge}
use Rattle.algebra.proofs.Certificate.{Rel, hyp, ◌⊕◌, ◌⊗◌, prove≤, prove<}
use Rattle.shape.specs.Points.{Point, Shape}
use Rattle.shape.specs.Signs.{turn}
use Rattle.shape.specs.Sharing.{Share}
use Rattle.shape.specs.Verdicts.{Says}
use Rattle.shape.specs.PlaneTest.{is_right, corner_in, last_edges, triangle_past_one, triangle_past_two}
use Rattle.shape.proofs.Symbols.{values, O, turn_e}
use Rattle.shape.proofs.Trading.{In, first, second, third, among_itself, share_trade, share_among}
use Rattle.shape.proofs.Witnesses.{point_in_triangle, segments_cross}
use Rattle.shape.proofs.VerdictLaws.{says_yes, says_no, says_by_sign}
use Rattle.shape.proofs.Steps.{corner_in_step}
use Rattle.shape.proofs.Edges.{Right, NotRight, Left, NotLeft, right_e, not_right_e, left_e, right_carries, all_right, all_left, right_on, right_back, not_right_on, not_right_back, right_mirrored, not_right_mirrored, beside_first, beside_second, beside_third}

-- p1 is strictly right of r2 → p2, and not of p2 → q2.
module _ (p1 q1 r1 p2 q2 r2 : Point) (left1 : Left p1 q1 r1) (left2 : Left p2 q2 r2) (inner : NotRight p2 q2 p1) (past : Right r2 p2 p1) where
  abbrev T1 : Shape
  T1 = p1 ∷ q1 ∷ r1 ∷ []

  abbrev T2 : Shape
  T2 = p2 ∷ q2 ∷ r2 ∷ []

  abbrev Meet : Type 0
  Meet = Share 2 T1 T2

  -- ---- certificates: the points are 0 to 5, and these four facts come first
  abbrev ρ : List ℤ
  ρ = values (p1 ∷ q1 ∷ r1 ∷ p2 ∷ q2 ∷ r2 ∷ [])

  abbrev known : List Rel
  known = left_e 0 1 2 ∷ left_e 3 4 5 ∷ not_right_e 3 4 0 ∷ right_e 5 3 0 ∷ []

  -- ---- the two kinds of witnesses
  corner_in_law : NotRight p1 q1 p2 → NotRight q1 r1 p2 → NotRight r1 p1 p2 → Meet
  corner_in_law pq qr rp =
      share_among {P = p1 ∷ q1 ∷ r1 ∷ []} {Q = p2 ∷ []}
      (among_itself T1) (first, tt)
      (share_trade (point_in_triangle p2 p1 q1 r1 left1 pq qr rp))

  edges_cross : (a b c d : Point) → In a T1 → In b T1 → In c T2 → In d T2 → Right c d a → NotRight c d b → NotRight a b c → NotLeft a b d → Meet
  edges_cross a b c d ia ib ic id cda cdb abc abd =
      share_among {P = a ∷ b ∷ []} {Q = c ∷ d ∷ []} (ia, (ib, tt)) (ic, (id, tt)) (segments_cross a b c d cda cdb abc abd)

  -- ---- p1 → q1 passes beyond p2
  says_corner_in : NotRight r2 p2 q1 → Right p1 p2 q1 → Says (corner_in p1 q1 r1 p2) Meet
  says_corner_in back beyond = corner_in_step p1 q1 r1 p2 outside_r1p1 outside_q1r1 inside
    where
      outside_r1p1 : Right p1 p2 r1 → Says false Meet
      outside_r1p1 h =
          let at_r2 : Right r1 p1 r2 =
          prove< ρ (known ++ (not_right_e 5 3 1 ∷ right_e 0 3 1 ∷ right_e 0 3 2 ∷ [])) (turn_e 2 0 5) O
          (hyp 5) (hyp 0 ⊗ hyp 3 ⊕ hyp 3 ⊗ hyp 6 ⊕ hyp 4 ⊗ hyp 6 ⊕ hyp 5 ⊗ hyp 6) tt tt refl
          left1 left2 inner past back beyond h in
          let at_q2 : Right r1 p1 q2 =
          prove< ρ (known ++ (not_right_e 5 3 1 ∷ right_e 0 3 1 ∷ right_e 0 3 2 ∷ right_e 2 0 5 ∷ [])) (turn_e 2 0 4) O
          (hyp 3 ⊗ hyp 3 ⊕ hyp 3 ⊗ hyp 5)
          (hyp 0 ⊗ hyp 2 ⊗ hyp 3 ⊕ hyp 1 ⊗ hyp 3 ⊗ hyp 6 ⊕ hyp 1 ⊗ hyp 5 ⊗ hyp 6 ⊕ hyp 2 ⊗ hyp 3 ⊗ hyp 7 ⊕ hyp 2 ⊗ hyp 4 ⊗ hyp 6 ⊕ hyp 3 ⊗ hyp 3 ⊗ hyp 6 ⊕ hyp 3 ⊗ hyp 5 ⊗ hyp 6) tt tt refl
          left1 left2 inner past back beyond h at_r2 in
          let at_p2 : Right r1 p1 p2 = right_back p1 p2 r1 h in
          says_no (beside_third p1 q1 r1 left1 T2 (at_p2, (at_q2, (at_r2, tt))))

      outside_q1r1 : NotRight p1 p2 r1 → Right q1 r1 p2 → Says false Meet
      outside_q1r1 within h =
          let at_r2 : Right q1 r1 r2 =
          prove< ρ (known ++ (not_right_e 5 3 1 ∷ right_e 0 3 1 ∷ not_right_e 0 3 2 ∷ right_e 1 2 3 ∷ [])) (turn_e 1 2 5) O
          (hyp 5) (hyp 0 ⊗ hyp 4 ⊕ hyp 3 ⊗ hyp 7 ⊕ hyp 4 ⊗ hyp 7 ⊕ hyp 5 ⊗ hyp 7) tt tt refl
          left1 left2 inner past back beyond within h in
          let at_q2 : Right q1 r1 q2 =
          prove< ρ (known ++ (not_right_e 5 3 1 ∷ right_e 0 3 1 ∷ not_right_e 0 3 2 ∷ right_e 1 2 3 ∷ right_e 1 2 5 ∷ [])) (turn_e 1 2 4) O
          (hyp 3 ⊗ hyp 3 ⊕ hyp 3 ⊗ hyp 5)
          (hyp 0 ⊗ hyp 1 ⊗ hyp 3 ⊕ hyp 0 ⊗ hyp 1 ⊗ hyp 5 ⊕ hyp 1 ⊗ hyp 3 ⊗ hyp 7 ⊕ hyp 1 ⊗ hyp 5 ⊗ hyp 7 ⊕ hyp 2 ⊗ hyp 3 ⊗ hyp 8 ⊕ hyp 2 ⊗ hyp 4 ⊗ hyp 5 ⊕ hyp 2 ⊗ hyp 4 ⊗ hyp 6 ⊕ hyp 3 ⊗ hyp 3 ⊗ hyp 7 ⊕ hyp 3 ⊗ hyp 5 ⊗ hyp 7) tt tt refl
          left1 left2 inner past back beyond within h at_r2 in
          says_no (beside_second p1 q1 r1 left1 T2 (h, (at_q2, (at_r2, tt))))

      inside : NotRight p1 p2 r1 → NotRight q1 r1 p2 → Meet
      inside within h =
          corner_in_law
          (weak (right_mirrored p1 p2 q1 beyond)) h
          (not_right_back p1 p2 r1 within)

  -- ---- q1 is past r2 → p2 too
  -- r2 is not right of q1 → r1, nor p2 of r1 → p1: a corner in the triangle or a crossing, by one more sign
  meet_back : Right r2 p2 q1 → NotRight r2 p2 r1 → NotRight p1 p2 r1 → NotRight q1 r1 r2 → Meet
  meet_back past-q1 back within h = by_sign (lt_or_ge (turn q1 r1 p2) (pos 0))
    where
      by_sign : (Right q1 r1 p2) ⊎ (NotRight q1 r1 p2) → Meet
      by_sign (inl g) =
          edges_cross q1 r1 r2 p2 second third third first past-q1 back h (le_of_lt g)
      by_sign (inr g) =
          corner_in_law
          (prove≤ ρ (known ++ (right_e 5 3 1 ∷ not_right_e 5 3 2 ∷ not_right_e 0 3 2 ∷ not_right_e 1 2 3 ∷ [])) O (turn_e 0 1 3)
          (hyp 3 ⊗ hyp 4 ⊕ hyp 3 ⊗ hyp 5 ⊕ hyp 4 ⊗ hyp 5) (hyp 0 ⊗ hyp 3 ⊗ hyp 4 ⊕ hyp 3 ⊗ hyp 3 ⊗ hyp 7 ⊕ hyp 4 ⊗ hyp 4 ⊗ hyp 6) tt tt refl
          left1 left2 inner past past-q1 back within g)
          g (not_right_back p1 p2 r1 within)

  -- r1 decides, then r2 against q1 → r1: `next` where it is right of that edge, and otherwise p2 against r1 → p1
  says_back : {next : Bool} → Right r2 p2 q1 → (NotRight r2 p2 r1 → Right q1 r1 r2 → Says next Meet) →
      Says (cond (is_right r2 p2 r1) false (cond (is_right q1 r1 r2) next (cond (is_right p1 p2 r1) false true))) Meet
  says_back past-q1 beyond =
      says_by_sign (turn r2 p2 r1) outside_r2p2
      (λ back. says_by_sign (turn q1 r1 r2) (beyond back)
      (λ h. says_by_sign (turn p1 p2 r1) (outside_r1p1 back) (λ within. says_yes (meet_back past-q1 back within h))))
    where
      outside_r2p2 : Right r2 p2 r1 → Says false Meet
      outside_r2p2 h = says_no (λ meet. beside_third p2 q2 r2 left2 T1 (past, (past-q1, (h, tt))) (share_trade meet))

      outside_r1p1 : NotRight r2 p2 r1 → Right p1 p2 r1 → Says false Meet
      outside_r1p1 back h =
          says_no (beside_third p1 q1 r1 left1 T2 (all_left p1 r1 p2 q2 r2 left2 past back inner (right_back p1 p2 r1 h)))

  -- ---- p1 is past r2 → p2 alone
  pub past_one : NotRight q2 r2 p1 → Says (triangle_past_one p1 q1 r1 p2 q2 r2) Meet
  past_one other =
      says_by_sign (turn r2 p2 q1) (λ past-q1. says_back past-q1 (outside_q1r1 past-q1))
      (λ back. says_by_sign (turn p1 p2 q1) (says_corner_in back) (λ before. says_by_sign (turn r2 p1 q1) (outside_p1q1 back) (λ h. says_yes (crosses back before h))))
    where
      outside_q1r1 : Right r2 p2 q1 → NotRight r2 p2 r1 → Right q1 r1 r2 → Says false Meet
      outside_q1r1 past-q1 back h =
          let at_q2 : Right q1 r1 q2 =
          prove< ρ (known ++ (not_right_e 4 5 0 ∷ right_e 5 3 1 ∷ not_right_e 5 3 2 ∷ right_e 1 2 5 ∷ [])) (turn_e 1 2 4) O
          (hyp 3) (hyp 0 ⊗ hyp 1 ⊕ hyp 1 ⊗ hyp 7 ⊕ hyp 3 ⊗ hyp 7 ⊕ hyp 4 ⊗ hyp 5 ⊕ hyp 4 ⊗ hyp 6) tt tt refl
          left1 left2 inner past other past-q1 back h in
          says_no (beside_second p1 q1 r1 left1 T2 (right_carries r2 p2 q1 r1 past-q1 back h, (at_q2, (h, tt))))

      outside_p1q1 : NotRight r2 p2 q1 → Right r2 p1 q1 → Says false Meet
      outside_p1q1 back h =
          says_no (beside_first p1 q1 r1 left1 T2 (all_right p1 q1 p2 q2 r2 left2 past back other (right_on r2 p1 q1 h)))

      crosses : NotRight r2 p2 q1 → NotRight p1 p2 q1 → NotRight r2 p1 q1 → Meet
      crosses back before h =
          edges_cross p1 q1 r2 p2 first second third first past back
          (not_right_on r2 p1 q1 h)
          (not_right_mirrored p1 p2 q1 before)

  -- ---- p1 is past q2 → r2 as well
  -- the edges q1 → r1 and q2 → r2 decide; what remains to be shown by the facts of the branch
  says_last_edges : Right q2 r2 p1 → (Right q1 r1 q2 → Says false Meet) → (NotRight q1 r1 q2 → Right q2 r2 q1) →
      (NotRight q2 r2 r1 → NotRight q1 r1 q2 → NotLeft q1 r1 r2) → Says (last_edges q1 r1 q2 r2) Meet
  says_last_edges other outside_q1r1 past-q1 beyond =
      says_by_sign (turn q1 r1 q2) outside_q1r1 (λ g. says_by_sign (turn q2 r2 r1) (outside_q2r2 (past-q1 g)) (λ h. says_yes (crosses g h)))
    where
      outside_q2r2 : Right q2 r2 q1 → Right q2 r2 r1 → Says false Meet
      outside_q2r2 g h = says_no (λ meet. beside_second p2 q2 r2 left2 T1 (other, (g, (h, tt))) (share_trade meet))

      crosses : NotRight q1 r1 q2 → NotRight q2 r2 r1 → Meet
      crosses g h =
          edges_cross q1 r1 q2 r2 second third second third (past-q1 g) h g (beyond h g)

  -- q1 is past r2 → p2 too, and r2 right of q1 → r1
  last_edges_back : Right q2 r2 p1 → Right r2 p2 q1 → NotRight r2 p2 r1 → Right q1 r1 r2 → Says (last_edges q1 r1 q2 r2) Meet
  last_edges_back other past-q1 back h = says_last_edges other outside_q1r1 past_too (λ f g. le_of_lt h)
    where
      outside_q1r1 : Right q1 r1 q2 → Says false Meet
      outside_q1r1 at_q2 = says_no (beside_second p1 q1 r1 left1 T2 (right_carries r2 p2 q1 r1 past-q1 back h, (at_q2, (h, tt))))

      past_too : NotRight q1 r1 q2 → Right q2 r2 q1
      past_too g =
          prove< ρ (known ++ (right_e 5 3 1 ∷ not_right_e 5 3 2 ∷ right_e 1 2 5 ∷ not_right_e 1 2 4 ∷ [])) (turn_e 4 5 1) O
          (hyp 4 ⊕ hyp 5) (hyp 1 ⊗ hyp 6 ⊕ hyp 4 ⊗ hyp 6 ⊕ hyp 4 ⊗ hyp 7) tt tt refl
          left1 left2 inner past past-q1 back h g

  -- q1 is not past r2 → p2, but past q2 → r2
  last_edges_on : Right q2 r2 p1 → NotRight r2 p2 q1 → NotRight q2 p1 q1 → Right q2 r2 q1 → Says (last_edges q1 r1 q2 r2) Meet
  last_edges_on other back near past-q1 =
      says_last_edges other (λ h. outside h (lt_or_ge (turn q2 r2 r1) (pos 0))) (λ g. past-q1) beyond
    where
      outside : Right q1 r1 q2 → (Right q2 r2 r1) ⊎ (NotRight q2 r2 r1) → Says false Meet
      outside h (inl g) = says_no (λ meet. beside_second p2 q2 r2 left2 T1 (other, (past-q1, (g, tt))) (share_trade meet))
      outside h (inr g) =
          let at_r2 : Right q1 r1 r2 = right_carries q2 r2 q1 r1 past-q1 g h in
          let at_p2 : Right q1 r1 p2 =
          prove< ρ (known ++ (right_e 4 5 0 ∷ right_e 4 5 1 ∷ right_e 1 2 4 ∷ not_right_e 4 5 2 ∷ [])) (turn_e 1 2 3) O
          (hyp 4) (hyp 0 ⊗ hyp 1 ⊕ hyp 1 ⊗ hyp 5 ⊕ hyp 1 ⊗ hyp 6 ⊕ hyp 2 ⊗ hyp 7 ⊕ hyp 3 ⊗ hyp 5 ⊕ hyp 4 ⊗ hyp 5 ⊕ hyp 4 ⊗ hyp 6) tt tt refl
          left1 left2 inner past other past-q1 h g in
          says_no (beside_second p1 q1 r1 left1 T2 (at_p2, (h, (at_r2, tt))))

      beyond : NotRight q2 r2 r1 → NotRight q1 r1 q2 → NotLeft q1 r1 r2
      beyond g h =
          prove≤ ρ (known ++ (right_e 4 5 0 ∷ not_right_e 5 3 1 ∷ right_e 4 5 1 ∷ not_right_e 4 0 1 ∷ not_right_e 4 5 2 ∷ not_right_e 1 2 4 ∷ [])) (turn_e 1 2 5) O
          (hyp 1 ⊗ hyp 7 ⊕ hyp 3 ⊗ hyp 6)
          (hyp 0 ⊗ hyp 1 ⊗ hyp 6 ⊕ hyp 3 ⊗ hyp 6 ⊗ hyp 6 ⊕ hyp 3 ⊗ hyp 6 ⊗ hyp 8 ⊕ hyp 4 ⊗ hyp 5 ⊗ hyp 9) tt tt refl
          left1 left2 inner past other back past-q1 near g h

  pub past_two : Right q2 r2 p1 → Says (triangle_past_two p1 q1 r1 p2 q2 r2) Meet
  past_two other =
      says_by_sign (turn r2 p2 q1) (λ past-q1. says_back past-q1 (last_edges_back other past-q1))
      (λ back. says_by_sign (turn q2 r2 q1)
      (λ past-q1. says_by_sign (turn q2 p1 q1) (outside_p1q1 back) (λ near. last_edges_on other back near past-q1))
      (λ h. says_by_sign (turn p1 p2 q1) (says_corner_in back)
      (λ before. says_by_sign (turn q2 p1 q1) (outside_p1q1 back)
      (λ near. says_yes (crosses back before near h (lt_or_ge (turn p1 q1 r2) (pos 0)))))))
    where
      outside_p1q1 : NotRight r2 p2 q1 → Right q2 p1 q1 → Says false Meet
      outside_p1q1 back h =
          let at_p2 : Right p1 q1 p2 =
          prove< ρ (known ++ (right_e 4 5 0 ∷ not_right_e 5 3 1 ∷ right_e 4 0 1 ∷ [])) (turn_e 0 1 3) O
          (hyp 1 ⊕ hyp 3) (hyp 1 ⊗ hyp 3 ⊕ hyp 2 ⊗ hyp 5 ⊕ hyp 3 ⊗ hyp 3 ⊕ hyp 3 ⊗ hyp 4 ⊕ hyp 3 ⊗ hyp 6) tt tt refl
          left1 left2 inner past other back h in
          let at_q2 : Right p1 q1 q2 = right_on q2 p1 q1 h in
          let at_r2 : Right p1 q1 r2 =
          prove< ρ (known ++ (right_e 4 5 0 ∷ not_right_e 5 3 1 ∷ right_e 4 0 1 ∷ [])) (turn_e 0 1 5) O
          (hyp 1 ⊕ hyp 3) (hyp 3 ⊗ hyp 4 ⊕ hyp 3 ⊗ hyp 6 ⊕ hyp 4 ⊗ hyp 5) tt tt refl
          left1 left2 inner past other back h in
          says_no (beside_first p1 q1 r1 left1 T2 (at_p2, (at_q2, (at_r2, tt))))

      crosses : NotRight r2 p2 q1 → NotRight p1 p2 q1 → NotRight q2 p1 q1 → NotRight q2 r2 q1 → (Right p1 q1 r2) ⊎ (NotRight p1 q1 r2) → Meet
      crosses back before near h (inl g) =
          edges_cross p1 q1 q2 r2 first second second third other h
          (not_right_on q2 p1 q1 near) (le_of_lt g)
      crosses back before near h (inr g) =
          edges_cross p1 q1 r2 p2 first second third first past back g
          (not_right_mirrored p1 p2 q1 before)
