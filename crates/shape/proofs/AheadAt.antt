-- Ahead of a point, for one n or without any: where the yz shadow of a, b, c is not flat, the triangle is ahead of d exactly where the turns of
-- its three edges with d in the shadow have the turn of the shadow or are zero, and the side of d has it. Said by products with N, the turn of
-- the shadow: three are not negative, the fourth is positive. The weights are N times the turns. Assumes nothing.
use mathlib.Core.Path.{◌≡◌, refl, sym, ◌∙◌, ap, subst}
use mathlib.Core.List.{List, [], ◌∷◌, map}
use mathlib.Core.Logic.{◌↔◌}
use Prim.Native.Nat.{ℕ, ◌<◌}
use native.Mathlib.Omega.{arith}
use lib.Dec.{ltb→lt}
use lib.ListN.{length}
use lib.IntN.{ℤ, pos, nat_abs, ◌*ℤ◌}
use lib.Signed.{◌≤ℤ◌, ◌<ℤ◌}
use Rattle.algebra.proofs.Expression.{Ex, var, ◌⊞◌, ◌⊟◌, ◌⊠◌, neg}
use Rattle.algebra.proofs.Solver.{ring}
use Rattle.algebra.proofs.Order.{0≤-pos, 0<-pos}
use Rattle.algebra.proofs.Certificate.{Rel, ◌≦◌, ◌≺◌, ◌≐◌, hyp, eqn, sqr, num, ◌⊕◌, ◌⊗◌, prove≤, prove<}
use Rattle.shape.specs.Points.{Point, Shape, coord}
use Rattle.shape.specs.Signs.{turn_in, side}
use Rattle.shape.specs.Sharing.{total, weigh}
use Rattle.shape.proofs.Steps.{ahead_y}
use Rattle.shape.proofs.Symbols.{O, PointE, point, side_of}
use Rattle.shape.proofs.Meeting.{point_with, coord_point_with, NonNegative, totalℤ, weighℤ, total_natural, weigh_natural}
use Rattle.shape.specs.Inside.{Ahead}

-- ---- symbols: the turn of three points in two coordinates
abbrev pub turn_in_e : ℕ → ℕ → PointE → PointE → PointE → Ex
turn_in_e i j a b c = (a i ⊟ c i) ⊠ (b j ⊟ c j) ⊟ (a j ⊟ c j) ⊠ (b i ⊟ c i)

-- ---- what decides
pub record Fits (a b c d : Point) : Type 0 where
  pub ab : pos 0 ≤ℤ (turn_in 1 2 a b c *ℤ turn_in 1 2 a b d)
  pub bc : pos 0 ≤ℤ (turn_in 1 2 a b c *ℤ turn_in 1 2 b c d)
  pub ca : pos 0 ≤ℤ (turn_in 1 2 a b c *ℤ turn_in 1 2 c a d)
  pub over : pos 0 <ℤ (turn_in 1 2 a b c *ℤ side a b c d)

module _ (a b c d : Point) where
  abbrev N : ℤ
  N = turn_in 1 2 a b c

  -- Four points and three weights.
  abbrev ρ : (u v w : ℤ) → List ℤ
  ρ u v w =
      coord 0 a ∷ coord 1 a ∷ coord 2 a ∷ coord 0 b ∷ coord 1 b ∷ coord 2 b ∷ coord 0 c ∷ coord 1 c ∷ coord 2 c
      ∷ coord 0 d ∷ coord 1 d ∷ coord 2 d ∷ u ∷ v ∷ w ∷ []

  abbrev A : PointE
  A = point 0

  abbrev B : PointE
  B = point 1

  abbrev C : PointE
  C = point 2

  abbrev D : PointE
  D = point 3

  abbrev NE : Ex
  NE = turn_in_e 1 2 A B C

  -- ---- from weights to products
  abbrev sum_e : Ex
  sum_e = var 12 ⊞ (var 13 ⊞ (var 14 ⊞ O))

  abbrev mix_e : ℕ → Ex
  mix_e k = var 12 ⊠ A k ⊞ (var 13 ⊠ B k ⊞ (var 14 ⊠ C k ⊞ O))

  -- No weight is negative and their sum is positive; the point has d's y and z and a larger x; the shadow is not flat.
  abbrev given : List Rel
  given =
      (O ≦ var 12) ∷ (O ≦ var 13) ∷ (O ≦ var 14) ∷ (O ≺ sum_e) ∷ (mix_e 1 ≐ sum_e ⊠ D 1) ∷ (mix_e 2 ≐ sum_e ⊠ D 2)
      ∷ (sum_e ⊠ D 0 ≺ mix_e 0) ∷ (O ≺ NE ⊠ NE) ∷ []

  module _ (u v w : ℕ) where
    abbrev sum : ℤ
    sum = pos (total (u ∷ v ∷ w ∷ []))

    abbrev mix : ℕ → ℤ
    mix k = weigh (coord k) (u ∷ v ∷ w ∷ []) (a ∷ b ∷ c ∷ [])

    by_weights : pos 0 <ℤ sum → mix 1 ≡ sum *ℤ coord 1 d → mix 2 ≡ sum *ℤ coord 2 d → (sum *ℤ coord 0 d) <ℤ mix 0 → pos 0 <ℤ (N *ℤ N) → Fits a b c d
    by_weights s y z x n =
        let r = ρ (pos u) (pos v) (pos w) in
        let hu = 0≤-pos u in
        let hv = 0≤-pos v in
        let hw = 0≤-pos w in record {
          ab = prove≤ r given O (NE ⊠ turn_in_e 1 2 A B D) (hyp 3)
              (hyp 2 ⊗ sqr NE ⊕ eqn 4 ((A 2 ⊟ B 2) ⊠ NE) ⊕ eqn 5 ((B 1 ⊟ A 1) ⊠ NE)) tt tt refl hu hv hw s y z x n;
          bc = prove≤ r given O (NE ⊠ turn_in_e 1 2 B C D) (hyp 3)
              (hyp 0 ⊗ sqr NE ⊕ eqn 4 ((B 2 ⊟ C 2) ⊠ NE) ⊕ eqn 5 ((C 1 ⊟ B 1) ⊠ NE)) tt tt refl hu hv hw s y z x n;
          ca = prove≤ r given O (NE ⊠ turn_in_e 1 2 C A D) (hyp 3)
              (hyp 1 ⊗ sqr NE ⊕ eqn 4 ((C 2 ⊟ A 2) ⊠ NE) ⊕ eqn 5 ((A 1 ⊟ C 1) ⊠ NE)) tt tt refl hu hv hw s y z x n;
          over = prove< r given O (NE ⊠ side_of A B C D) (hyp 3)
              (hyp 7 ⊗ hyp 6 ⊕ eqn 4 (neg (turn_in_e 2 0 A B C) ⊠ NE) ⊕ eqn 5 (neg (turn_in_e 0 1 A B C) ⊠ NE)) tt tt refl hu hv hw s y z x n;
        }

  pub fits_of_ahead : pos 0 <ℤ (N *ℤ N) → Ahead (a ∷ b ∷ c ∷ []) d → Fits a b c d
  fits_of_ahead n h = by_list h.of_shape.weights h.of_shape.each h.of_shape.sum (λ i l. h.of_shape.mixed i l)
    where
      by_list : (ws : List ℕ) → length ws ≡ 3 → total ws ≡ h.s → ((i : ℕ) → i < 3 → weigh (coord i) ws (a ∷ b ∷ c ∷ []) ≡ coord i h.x) → Fits a b c d
      by_list [] l e m = absurd (omega (arith, l))
      by_list (u ∷ []) l e m = absurd (omega (arith, l))
      by_list (u ∷ v ∷ []) l e m = absurd (omega (arith, l))
      by_list (u ∷ v ∷ w ∷ []) l e m =
          by_weights u v w
          (0<-pos (total (u ∷ v ∷ w ∷ [])) (omega (arith, e, h.of_shape.some)))
          (m 1 (omega arith) ∙ ahead_y h ∙ ap (λ (s : ℕ). pos s *ℤ coord 1 d) (sym e))
          (m 2 (omega arith) ∙ h.same_z ∙ ap (λ (s : ℕ). pos s *ℤ coord 2 d) (sym e))
          (subst (λ (t : ℤ). (sum u v w *ℤ coord 0 d) <ℤ t) (sym (m 0 (omega arith)))
          (subst (λ (s : ℕ). (pos s *ℤ coord 0 d) <ℤ coord 0 h.x) (sym e) h.larger_x))
          n
      by_list (u ∷ v ∷ w ∷ t ∷ ws) l e m = absurd (omega (arith, l))

  -- ---- from products to weights: N times the turn of the opposite edge
  abbrev ws : List ℤ
  ws = (N *ℤ turn_in 1 2 b c d) ∷ (N *ℤ turn_in 1 2 c a d) ∷ (N *ℤ turn_in 1 2 a b d) ∷ []

  abbrev P : Shape
  P = a ∷ b ∷ c ∷ []

  abbrev r : List ℤ
  r = ρ (pos 0) (pos 0) (pos 0)

  abbrev mixed : ℕ → Ex
  mixed k = (NE ⊠ turn_in_e 1 2 B C D) ⊠ A k ⊞ ((NE ⊠ turn_in_e 1 2 C A D) ⊠ B k ⊞ ((NE ⊠ turn_in_e 1 2 A B D) ⊠ C k ⊞ O))

  total_is : totalℤ ws ≡ N *ℤ N
  total_is = ring r ((NE ⊠ turn_in_e 1 2 B C D) ⊞ ((NE ⊠ turn_in_e 1 2 C A D) ⊞ ((NE ⊠ turn_in_e 1 2 A B D) ⊞ O))) (NE ⊠ NE) tt refl

  y_is : weighℤ (coord 1) ws P ≡ N *ℤ N *ℤ coord 1 d
  y_is = ring r (mixed 1) (NE ⊠ NE ⊠ D 1) tt refl

  z_is : weighℤ (coord 2) ws P ≡ N *ℤ N *ℤ coord 2 d
  z_is = ring r (mixed 2) (NE ⊠ NE ⊠ D 2) tt refl

  x_is : pos 0 <ℤ (N *ℤ side a b c d) → (N *ℤ N *ℤ coord 0 d) <ℤ weighℤ (coord 0) ws P
  x_is = prove< r ((O ≺ NE ⊠ side_of A B C D) ∷ []) (NE ⊠ NE ⊠ D 0) (mixed 0) (num 1) (hyp 0) tt tt refl

  pub ahead_of_fits : pos 0 <ℤ (N *ℤ N) → Fits a b c d → Ahead P d
  ahead_of_fits n f =
      let nn : NonNegative ws = (f.bc, (f.ca, (f.ab, tt))) in
      let s = total (map nat_abs ws) in
      let is : pos s ≡ N *ℤ N = total_natural ws nn ∙ total_is in
      let sums : ℕ → ℤ = λ i. weighℤ (coord i) ws P in record {
        s = s;
        x = point_with 3 sums;
        of_shape = record {
          weights = map nat_abs ws;
          each = refl;
          sum = refl;
          some = ltb→lt 0 s (subst (λ (z : ℤ). pos 0 <ℤ z) (sym is) n).lt;
          mixed = λ i l. weigh_natural (coord i) ws P nn ∙ sym (coord_point_with 3 sums i l);
        };
        same_y = y_is ∙ ap (λ (z : ℤ). z *ℤ coord 1 d) (sym is);
        same_z = z_is ∙ ap (λ (z : ℤ). z *ℤ coord 2 d) (sym is);
        larger_x = subst (λ (z : ℤ). (z *ℤ coord 0 d) <ℤ weighℤ (coord 0) ws P) (sym is) (x_is f.over);
      }

-- The triangle is ahead exactly where the products say so.
pub ahead_fits : (a b c d : Point) → pos 0 <ℤ (turn_in 1 2 a b c *ℤ turn_in 1 2 a b c) → Ahead (a ∷ b ∷ c ∷ []) d ↔ Fits a b c d
ahead_fits a b c d n = (fits_of_ahead a b c d n, ahead_of_fits a b c d n)
