-- The leaves of the tests in space (specs/SpaceTest.antt). Two triangles p1 q1 r1 and p2 q2 r2, p1 alone on the non-negative side of the
-- second's plane and p2 on that of the first's: the last two signs say whether they have a point in common. A segment p q that goes
-- down through the plane of a b c: its signs against the edges say so. Assumes nothing.
use mathlib.Core.Path.{◌≡◌, refl, subst}
use mathlib.Core.List.{List, [], ◌∷◌}
use mathlib.Core.Logic.{◌⊎◌, inl, inr}
use native.Mathlib.Omega.{arith}
use lib.IntN.{ℤ, pos, negsuc, neg_ℤ, ◌+ℤ◌, ◌*ℤ◌}
use lib.Signed.{◌≤ℤ◌, ◌<ℤ◌, clash_ℤ}
use Rattle.algebra.proofs.Expression.{Ex, var, lit, ◌⊞◌, ◌⊠◌, neg}
use Rattle.algebra.proofs.Solver.{ring}
use Rattle.algebra.proofs.Order.{ThreeWay, minus, none, plus, three_way, lt_or_ge}
use Rattle.algebra.proofs.Certificate.{◌≦◌, ◌≺◌, ◌≐◌, hyp, eqn, num, ◌⊕◌, ◌⊗◌, prove≤, prove<}
use Rattle.shape.specs.Points.{Point}
use Rattle.shape.specs.Signs.{side}
use Rattle.shape.specs.Sharing.{Share}
use Rattle.shape.specs.Verdicts.{Says}
use Rattle.shape.specs.SpaceTest.{last_signs, past_no_edge}
use Rattle.shape.proofs.Symbols.{values, O, side_e}
use Rattle.shape.proofs.Trading.{first, second, third, among_itself, share_trade, share_among}
use Rattle.shape.proofs.Apart.{apart}
use Rattle.shape.proofs.Witnesses.{segment_through_triangle}
use Rattle.shape.proofs.VerdictLaws.{says_yes, says_no}
use Rattle.shape.proofs.Standings.{Alone, says_by_above}
use Rattle.shape.proofs.Planes.{across, offset, across_at}

-- The opposite of a number that is zero or less, and back.
turned_up : {z : ℤ} → z ≤ℤ pos 0 → pos 0 ≤ℤ neg_ℤ z
turned_up {z} = prove≤ (z ∷ []) ((var 0 ≦ O) ∷ []) O (neg (var 0)) (num 1) (hyp 0) tt tt refl

turned_down : {z : ℤ} → pos 0 ≤ℤ neg_ℤ z → z ≤ℤ pos 0
turned_down {z} = prove≤ (z ∷ []) ((O ≦ neg (var 0)) ∷ []) (var 0) O (num 1) (hyp 0) tt tt refl

-- Three weights A, B, C with a positive sum, of corners whose side values x, y, z against some plane add up to zero with them, the
-- first corner alone on its side: where B and C are not negative, A isn't either.
third_weight : (A B C x y z : ℤ) → Alone x y z → A *ℤ x +ℤ B *ℤ y +ℤ C *ℤ z ≡ pos 0 →
    pos 0 ≤ℤ B → pos 0 ≤ℤ C → pos 0 <ℤ (A +ℤ B +ℤ C) → pos 0 ≤ℤ A
third_weight A B C x y z lone even not-B not-C some = by_sign (three_way x)
  where
    ρ : List ℤ
    ρ = A ∷ B ∷ C ∷ x ∷ y ∷ z ∷ []

    sum : Ex
    sum = var 0 ⊠ var 3 ⊞ var 1 ⊠ var 4 ⊞ var 2 ⊠ var 5

    below : (w : ℤ) → w <ℤ x → x ≡ pos 0 → w <ℤ pos 0
    below w l e = subst (λ (v : ℤ). w <ℤ v) e l

    by_sign : ThreeWay x → pos 0 ≤ℤ A
    by_sign (minus h) = clash_ℤ h lone.first
    by_sign (none e) =
        prove≤ ρ ((sum ≐ O) ∷ (var 3 ≐ O) ∷ (var 4 ≺ O) ∷ (var 5 ≺ O) ∷ (O ≦ var 1) ∷ (O ≦ var 2) ∷ (O ≺ var 0 ⊞ var 1 ⊞ var 2) ∷ []) O (var 0)
        (hyp 2 ⊗ hyp 3)
        (hyp 6 ⊗ hyp 2 ⊗ hyp 3 ⊕ hyp 5 ⊗ hyp 3 ⊗ hyp 3 ⊕ hyp 4 ⊗ hyp 2 ⊗ hyp 2 ⊕ eqn 0 (var 4 ⊞ var 5) ⊕ eqn 1 (var 0 ⊠ neg (var 4 ⊞ var 5)))
        tt tt refl even e (below y lone.over_second e) (below z lone.over_third e) not-B not-C some
    by_sign (plus h) =
        prove≤ ρ ((sum ≐ O) ∷ (O ≺ var 3) ∷ (var 4 ≦ O) ∷ (var 5 ≦ O) ∷ (O ≦ var 1) ∷ (O ≦ var 2) ∷ []) O (var 0)
        (hyp 1) (hyp 4 ⊗ hyp 2 ⊕ hyp 5 ⊗ hyp 3 ⊕ eqn 0 (lit (negsuc 0))) tt tt refl even h lone.second lone.third not-B not-C

-- ---- two triangles, p1 and p2 alone on the non-negative sides
module _ (p1 q1 r1 p2 q2 r2 : Point)
    (lone_1 : Alone (side p2 q2 r2 p1) (side p2 q2 r2 q1) (side p2 q2 r2 r1))
    (lone_2 : Alone (side p1 q1 r1 p2) (side p1 q1 r1 q2) (side p1 q1 r1 r2)) where
  abbrev six : List ℤ
  six = values (p1 ∷ q1 ∷ r1 ∷ p2 ∷ q2 ∷ r2 ∷ [])

  abbrev Meet : Type 0
  Meet = Share 3 (p1 ∷ q1 ∷ r1 ∷ []) (p2 ∷ q2 ∷ r2 ∷ [])

  -- [p1,q1,p2,q2] above zero: the functional along p1 → q1 and p2 → q2 keeps them apart.
  apart_first : pos 0 <ℤ side p1 q1 p2 q2 → Meet → ⊥
  apart_first h =
      apart (across p1 q1 p2 q2) (offset p1 q1 p2 q2) (omega arith) (
        prove≤ six [] (across_at 0 1 3 4 0) O (num 1) (num 0) tt tt refl,
        (
          prove≤ six [] (across_at 0 1 3 4 1) O (num 1) (num 0) tt tt refl,
          (prove≤ six ((side_e 0 1 2 4 ≺ side_e 0 1 2 3) ∷ []) (across_at 0 1 3 4 2) O (num 1) (hyp 0) tt tt refl lone_2.over_second, tt),
        ),
      ) (
        prove< six ((O ≺ side_e 0 1 3 4) ∷ []) O (across_at 0 1 3 4 3) (num 1) (hyp 0) tt tt refl h,
        (
          prove< six ((O ≺ side_e 0 1 3 4) ∷ []) O (across_at 0 1 3 4 4) (num 1) (hyp 0) tt tt refl h,
          (
            prove< six ((O ≺ side_e 0 1 3 4) ∷ (side_e 3 4 5 1 ≺ side_e 3 4 5 0) ∷ []) O (across_at 0 1 3 4 5) (num 1) (hyp 0 ⊕ hyp 1) tt tt refl
                h lone_1.over_second,
            tt,
          ),
        ),
      )

  -- [p1,r1,r2,p2] above zero: the functional along p1 → r1 and r2 → p2 does.
  apart_second : pos 0 <ℤ side p1 r1 r2 p2 → Meet → ⊥
  apart_second h =
      apart (across p1 r1 r2 p2) (offset p1 r1 r2 p2) (omega arith) (
        prove≤ six [] (across_at 0 2 5 3 0) O (num 1) (num 0) tt tt refl,
        (
          prove≤ six ((side_e 0 1 2 5 ≺ side_e 0 1 2 3) ∷ []) (across_at 0 2 5 3 1) O (num 1) (hyp 0) tt tt refl lone_2.over_third,
          (prove≤ six [] (across_at 0 2 5 3 2) O (num 1) (num 0) tt tt refl, tt),
        ),
      ) (
        prove< six ((O ≺ side_e 0 2 5 3) ∷ []) O (across_at 0 2 5 3 3) (num 1) (hyp 0) tt tt refl h,
        (
          prove< six ((O ≺ side_e 0 2 5 3) ∷ (side_e 3 4 5 2 ≺ side_e 3 4 5 0) ∷ []) O (across_at 0 2 5 3 4) (num 1) (hyp 0 ⊕ hyp 1) tt tt refl
              h lone_1.over_third,
          (prove< six ((O ≺ side_e 0 2 5 3) ∷ []) O (across_at 0 2 5 3 5) (num 1) (hyp 0) tt tt refl h, tt),
        ),
      )

  -- Neither, and [p1,r1,p2,q2] is zero or less: the edge p1 r1 goes through the second triangle.
  first_edge : side p1 r1 r2 p2 ≤ℤ pos 0 → side p1 r1 p2 q2 ≤ℤ pos 0 → Meet
  first_edge h k =
      share_among (first, (third, tt)) (among_itself (p2 ∷ q2 ∷ r2 ∷ []))
      (segment_through_triangle p1 r1 p2 q2 r2 lone_1.first lone_1.third lone_1.over_third
      (turned_down (third_weight (neg_ℤ (side p1 r1 q2 r2)) (neg_ℤ (side p1 r1 r2 p2)) (neg_ℤ (side p1 r1 p2 q2))
      (side p1 q1 r1 p2) (side p1 q1 r1 q2) (side p1 q1 r1 r2) lone_2
      (ring six (neg (side_e 0 2 4 5) ⊠ side_e 0 1 2 3 ⊞ neg (side_e 0 2 5 3) ⊠ side_e 0 1 2 4 ⊞ neg (side_e 0 2 3 4) ⊠ side_e 0 1 2 5) O tt refl)
      (turned_up h) (turned_up k)
      (prove< six ((side_e 3 4 5 2 ≺ side_e 3 4 5 0) ∷ []) O (neg (side_e 0 2 4 5) ⊞ neg (side_e 0 2 5 3) ⊞ neg (side_e 0 2 3 4)) (num 1) (hyp 0) tt tt refl
      lone_1.over_third)))
      h k)

  -- Otherwise the edge p2 q2 goes through the first.
  second_edge : side p2 q2 r1 p1 ≤ℤ pos 0 → side p2 q2 p1 q1 ≤ℤ pos 0 → Meet
  second_edge h k =
      share_trade (share_among (first, (second, tt)) (among_itself (p1 ∷ q1 ∷ r1 ∷ []))
      (segment_through_triangle p2 q2 p1 q1 r1 lone_2.first lone_2.second lone_2.over_second
      (turned_down (third_weight (neg_ℤ (side p2 q2 q1 r1)) (neg_ℤ (side p2 q2 r1 p1)) (neg_ℤ (side p2 q2 p1 q1))
      (side p2 q2 r2 p1) (side p2 q2 r2 q1) (side p2 q2 r2 r1) lone_1
      (ring six (neg (side_e 3 4 1 2) ⊠ side_e 3 4 5 0 ⊞ neg (side_e 3 4 2 0) ⊠ side_e 3 4 5 1 ⊞ neg (side_e 3 4 0 1) ⊠ side_e 3 4 5 2) O tt refl)
      (turned_up h) (turned_up k)
      (prove< six ((side_e 0 1 2 4 ≺ side_e 0 1 2 3) ∷ []) O (neg (side_e 3 4 1 2) ⊞ neg (side_e 3 4 2 0) ⊞ neg (side_e 3 4 0 1)) (num 1) (hyp 0) tt tt refl
      lone_2.over_second)))
      h k))

  meeting : side p1 q1 p2 q2 ≤ℤ pos 0 → side p1 r1 r2 p2 ≤ℤ pos 0 → Meet
  meeting h k = by_sign (lt_or_ge (pos 0) (side p1 r1 p2 q2))
    where
      by_sign : (pos 0 <ℤ side p1 r1 p2 q2) ⊎ (side p1 r1 p2 q2 ≤ℤ pos 0) → Meet
      by_sign (inl l) =
          second_edge
          (prove≤ six ((O ≺ side_e 0 2 3 4) ∷ []) (side_e 3 4 2 0) O (num 1) (hyp 0) tt tt refl l)
          (prove≤ six ((side_e 0 1 3 4 ≦ O) ∷ []) (side_e 3 4 0 1) O (num 1) (hyp 0) tt tt refl h)
      by_sign (inr l) = first_edge k l

  pub last_signs_law : Says (last_signs p1 q1 r1 p2 q2 r2) Meet
  last_signs_law =
      says_by_above (side p1 q1 p2 q2) (λ h. says_no (apart_first h))
      (λ h. says_by_above (side p1 r1 r2 p2) (λ k. says_no (apart_second k)) (λ k. says_yes (meeting h k)))

-- ---- a segment from its higher end p
-- It passes the edge a b of the triangle on the outside: the functional along p → q and a → b keeps them apart.
past_edge : (p q a b c : Point) → side a b c q <ℤ side a b c p → pos 0 <ℤ side p q a b → Share 3 (p ∷ q ∷ []) (a ∷ b ∷ c ∷ []) → ⊥
past_edge p q a b c falls h =
    apart (across p q a b) (offset p q a b) (omega arith)
    (prove≤ five [] (across_at 0 1 2 3 0) O (num 1) (num 0) tt tt refl, (prove≤ five [] (across_at 0 1 2 3 1) O (num 1) (num 0) tt tt refl, tt)) (
      prove< five ((O ≺ side_e 0 1 2 3) ∷ []) O (across_at 0 1 2 3 2) (num 1) (hyp 0) tt tt refl h,
      (
        prove< five ((O ≺ side_e 0 1 2 3) ∷ []) O (across_at 0 1 2 3 3) (num 1) (hyp 0) tt tt refl h,
        (
          prove< five ((O ≺ side_e 0 1 2 3) ∷ (side_e 2 3 4 1 ≺ side_e 2 3 4 0) ∷ []) O (across_at 0 1 2 3 4) (num 1) (hyp 0 ⊕ hyp 1) tt tt refl h falls,
          tt,
        ),
      ),
    )
  where
    five : List ℤ
    five = values (p ∷ q ∷ a ∷ b ∷ c ∷ [])

-- The same fall seen from the triangle with its corners turned.
falls_on : (p q a b c : Point) → side a b c q <ℤ side a b c p → side b c a q <ℤ side b c a p
falls_on p q a b c =
    prove< (values (p ∷ q ∷ a ∷ b ∷ c ∷ [])) ((side_e 2 3 4 1 ≺ side_e 2 3 4 0) ∷ []) (side_e 3 4 2 1) (side_e 3 4 2 0) (num 1) (hyp 0) tt tt refl

pub past_no_edge_law : (p q a b c : Point) → pos 0 ≤ℤ side a b c p → side a b c q ≤ℤ pos 0 → side a b c q <ℤ side a b c p →
    Says (past_no_edge p q a b c) (Share 3 (p ∷ q ∷ []) (a ∷ b ∷ c ∷ []))
past_no_edge_law p q a b c above below falls =
    says_by_above (side p q a b) (λ h. says_no (past_edge p q a b c falls h))
    (λ ab. says_by_above (side p q b c)
    (λ h. says_no (λ s. past_edge p q b c a falls_once h (share_among (among_itself (p ∷ q ∷ [])) (third, (first, (second, tt))) s)))
    (λ bc. says_by_above (side p q c a)
    (λ h. says_no (λ s. past_edge p q c a b (falls_on p q b c a falls_once) h (share_among (among_itself (p ∷ q ∷ [])) (second, (third, (first, tt))) s)))
    (λ ca. says_yes (segment_through_triangle p q a b c above below falls bc ca ab))))
  where
    falls_once : side b c a q <ℤ side b c a p
    falls_once = falls_on p q a b c falls
