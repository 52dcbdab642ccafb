-- A triangle is counted, for every n large enough, exactly where the levels of its edges and of its plane are alike (specs/InsideTest.antt). For n the
-- turns and the side are a power of n times a polynomial in n (Enlarged.antt), so Eventually.antt gives their signs. The polynomials of the edges add up to a
-- positive multiple of the shadow's turn: where they are alike the shadow is not flat and has their sign. Assumes nothing.
use mathlib.Core.Path.{◌≡◌, refl, ◌∙◌, subst}
use mathlib.Core.List.{List, [], ◌∷◌}
use mathlib.Core.Logic.{◌↔◌, ◌⊎◌, inl, inr}
use Prim.Native.Nat.{ℕ, ◌+◌, ◌≤◌}
use native.Mathlib.Omega.{arith}
use lib.Dec.{eqb}
use lib.IntN.{ℤ, pos, ◌+ℤ◌, ◌*ℤ◌, *ℤ_comm}
use lib.Signed.{◌≤ℤ◌, ◌<ℤ◌}
use Rattle.algebra.proofs.Expression.{var, lit, ◌⊞◌, ◌⊟◌, ◌⊠◌, neg}
use Rattle.algebra.proofs.Solver.{ring}
use Rattle.algebra.proofs.Order.{ThreeWay, minus, none, plus, three_way, weak, 0<-pos, 0<-mul, lt_or_ge}
use Rattle.algebra.proofs.Certificate.{Rel, ◌≦◌, ◌≺◌, ◌≐◌, hyp, eqn, sqr, num, ◌⊕◌, ◌⊗◌, prove≤, prove<, prove≡, prove⊥}
use Rattle.shape.specs.Points.{Point, Shape, coord}
use Rattle.shape.specs.Signs.{turn, turn_in}
use Rattle.shape.specs.Verdicts.{Says}
use Rattle.shape.specs.Inside.{square, enlarged, nudged, shadow_of, Counted}
use Rattle.shape.specs.InsideTest.{leading, edge_numbers, plane_numbers, edge_level, plane_level, all_alike, is_ahead}
use Rattle.shape.proofs.Symbols.{values, O, turn_e}
use Rattle.shape.proofs.FlatLaws.{flat_in_plane}
use Rattle.shape.proofs.VerdictLaws.{says_yes, says_no, says_both, says_same}
use Rattle.shape.proofs.Eventually.{enough_for, enough_positive, Level, below, nought, above, leads, leading_none}
use Rattle.shape.proofs.AheadAt.{Fits, ahead_fits}
use Rattle.shape.proofs.Enlarged.{edge_at, plane_at, large_shadow, large_edge, large_plane, edges_sum}

-- ---- two numbers of one sign: their product is positive
abbrev Alike : ℤ → ℤ → Type 0
Alike x y = pos 0 <ℤ (x *ℤ y)

alike_trade : (x y : ℤ) → Alike x y → Alike y x
alike_trade x y = subst (λ (z : ℤ). pos 0 <ℤ z) (*ℤ_comm x y)

alike_join : (x y z : ℤ) → Alike x y → Alike x z → Alike y z
alike_join x y z h k = by_sign (lt_or_ge (pos 0) (y *ℤ z))
  where
    never : pos 0 <ℤ (x *ℤ y) → pos 0 <ℤ (x *ℤ z) → (y *ℤ z) ≤ℤ pos 0 → ⊥
    never =
        prove⊥ (x ∷ y ∷ z ∷ []) ((O ≺ var 0 ⊠ var 1) ∷ (O ≺ var 0 ⊠ var 2) ∷ (var 1 ⊠ var 2 ≦ O) ∷ [])
        (hyp 0 ⊗ hyp 1 ⊕ hyp 2 ⊗ sqr (var 0)) tt tt refl

    by_sign : (pos 0 <ℤ (y *ℤ z)) ⊎ ((y *ℤ z) ≤ℤ pos 0) → Alike y z
    by_sign (inl p) = p
    by_sign (inr p) = absurd (never h k p)

both_above : (x y : ℤ) → pos 0 <ℤ x → pos 0 <ℤ y → Alike x y
both_above x y p q = 0<-mul p q

both_below : (x y : ℤ) → x <ℤ pos 0 → y <ℤ pos 0 → Alike x y
both_below x y = prove< (x ∷ y ∷ []) ((var 0 ≺ O) ∷ (var 1 ≺ O) ∷ []) O (var 0 ⊠ var 1) (num 1) (hyp 0 ⊗ hyp 1) tt tt refl

not_across : (x y : ℤ) → x <ℤ pos 0 → pos 0 <ℤ y → Alike x y → ⊥
not_across x y = prove⊥ (x ∷ y ∷ []) ((var 0 ≺ O) ∷ (O ≺ var 1) ∷ (O ≺ var 0 ⊠ var 1) ∷ []) (hyp 0 ⊗ hyp 1 ⊕ hyp 2) tt tt refl

not_nought : (x y : ℤ) → y ≡ pos 0 → Alike x y → ⊥
not_nought x y = prove⊥ (x ∷ y ∷ []) ((var 1 ≐ O) ∷ (O ≺ var 0 ⊠ var 1) ∷ []) (hyp 1 ⊕ eqn 0 (var 0)) tt tt refl

-- Numbers that aren't zero, and whose product isn't negative.
alike_itself : (x : ℤ) → (x ≡ pos 0 → ⊥) → Alike x x
alike_itself x f = by_sign (three_way x)
  where
    by_sign : ThreeWay x → Alike x x
    by_sign (minus h) = both_below x x h h
    by_sign (none z) = absurd (f z)
    by_sign (plus h) = both_above x x h h

alike_weak : (x y : ℤ) → (x ≡ pos 0 → ⊥) → (y ≡ pos 0 → ⊥) → pos 0 ≤ℤ (x *ℤ y) → Alike x y
alike_weak x y f g h = by_sign (lt_or_ge (pos 0) (x *ℤ y))
  where
    never : pos 0 <ℤ (x *ℤ x) → pos 0 <ℤ (y *ℤ y) → pos 0 ≤ℤ (x *ℤ y) → (x *ℤ y) ≤ℤ pos 0 → ⊥
    never =
        prove⊥ (x ∷ y ∷ []) ((O ≺ var 0 ⊠ var 0) ∷ (O ≺ var 1 ⊠ var 1) ∷ (O ≦ var 0 ⊠ var 1) ∷ (var 0 ⊠ var 1 ≦ O) ∷ [])
        (hyp 0 ⊗ hyp 1 ⊕ hyp 2 ⊗ hyp 3) tt tt refl

    by_sign : (pos 0 <ℤ (x *ℤ y)) ⊎ ((x *ℤ y) ≤ℤ pos 0) → Alike x y
    by_sign (inl p) = p
    by_sign (inr p) = absurd (never (alike_itself x f) (alike_itself y g) h p)

-- ---- by their levels
level_alike : {i j : ℕ} {x y : ℤ} → (i ≡ 1 → ⊥) → Level i x → Level j y → Says (eqb j i) (Alike x y)
level_alike f (nought p) l = absurd (f refl)
level_alike {x} {y} f (below p) (below q) = says_yes (both_below x y p q)
level_alike {x} {y} f (below p) (nought q) = says_no (not_nought x y q)
level_alike {x} {y} f (below p) (above q) = says_no (not_across x y p q)
level_alike {x} {y} f (above p) (below q) = says_no (λ h. not_across y x q p (alike_trade x y h))
level_alike {x} {y} f (above p) (nought q) = says_no (not_nought x y q)
level_alike {x} {y} f (above p) (above q) = says_yes (both_above x y p q)

abbrev AllAlike : (e f g h : ℤ) → Type 0
AllAlike e f g h = Alike e f × (Alike e g × Alike e h)

levels_alike : {i j l m : ℕ} {e f g h : ℤ} → Level i e → Level j f → Level l g → Level m h →
    Says (all_alike i j l m) (AllAlike e f g h)
levels_alike {e} {f} (nought p) s t u = says_no (λ a. not_nought f e p (alike_trade e f a.0))
levels_alike (below p) s t u =
    let n : ◌≡◌ {A = ℕ} 0 1 → ⊥ = λ x. omega (arith, x) in says_both (level_alike n (below p) s) (says_both (level_alike n (below p) t) (level_alike n (below p) u))
levels_alike (above p) s t u =
    let n : ◌≡◌ {A = ℕ} 2 1 → ⊥ = λ x. omega (arith, x) in says_both (level_alike n (above p) s) (says_both (level_alike n (above p) t) (level_alike n (above p) u))

level_some : {i : ℕ} {x : ℤ} → (i ≡ 1 → ⊥) → Level i x → x ≡ pos 0 → ⊥
level_some f (nought p) = λ z. f refl
level_some {x} f (below p) = prove⊥ (x ∷ []) ((var 0 ≺ O) ∷ (var 0 ≐ O) ∷ []) (hyp 0 ⊕ eqn 1 (neg (lit (pos 1)))) tt tt refl p
level_some {x} f (above p) = prove⊥ (x ∷ []) ((O ≺ var 0) ∷ (var 0 ≐ O) ∷ []) (hyp 0 ⊕ eqn 1 (lit (pos 1))) tt tt refl p

-- ---- positive multiples x of u and y of v have the signs of u and v
module _ (u v : ℤ) {k l x y : ℤ} (k_some : pos 0 <ℤ k) (l_some : pos 0 <ℤ l) (x_is : x ≡ k *ℤ u) (y_is : y ≡ l *ℤ v) where
  abbrev vs : List ℤ
  vs = k ∷ l ∷ u ∷ v ∷ x ∷ y ∷ []

  abbrev given : Rel → List Rel
  given r = (O ≺ var 0) ∷ (O ≺ var 1) ∷ (var 4 ≐ var 0 ⊠ var 2) ∷ (var 5 ≐ var 1 ⊠ var 3) ∷ r ∷ []

  smaller≤ : pos 0 ≤ℤ (x *ℤ y) → pos 0 ≤ℤ (u *ℤ v)
  smaller≤ =
      prove≤ vs (given (O ≦ var 4 ⊠ var 5)) O (var 2 ⊠ var 3) (hyp 0 ⊗ hyp 1)
      (hyp 4 ⊕ eqn 2 (var 1 ⊠ var 3) ⊕ eqn 3 (var 4)) tt tt refl k_some l_some x_is y_is

  smaller< : pos 0 <ℤ (x *ℤ y) → pos 0 <ℤ (u *ℤ v)
  smaller< =
      prove< vs (given (O ≺ var 4 ⊠ var 5)) O (var 2 ⊠ var 3) (hyp 0 ⊗ hyp 1)
      (hyp 4 ⊕ eqn 2 (var 1 ⊠ var 3) ⊕ eqn 3 (var 4)) tt tt refl k_some l_some x_is y_is

  larger : pos 0 <ℤ (u *ℤ v) → pos 0 <ℤ (x *ℤ y)
  larger =
      prove< vs (given (O ≺ var 2 ⊠ var 3)) O (var 4 ⊠ var 5) (num 1)
      (hyp 0 ⊗ hyp 1 ⊗ hyp 4 ⊕ eqn 2 (neg (var 1 ⊠ var 3)) ⊕ eqn 3 (neg (var 4))) tt tt refl k_some l_some x_is y_is

-- Three alike that add up to a positive multiple of N have its sign.
sum_alike : (k N e f g : ℤ) → pos 0 <ℤ k → e +ℤ f +ℤ g ≡ k *ℤ N → Alike e f → Alike e g → Alike e N
sum_alike k N e f g =
    prove< (k ∷ N ∷ e ∷ f ∷ g ∷ []) ((O ≺ var 0) ∷ (var 2 ⊞ var 3 ⊞ var 4 ≐ var 0 ⊠ var 1) ∷ (O ≺ var 2 ⊠ var 3) ∷ (O ≺ var 2 ⊠ var 4) ∷ [])
    O (var 2 ⊠ var 1) (hyp 0) (hyp 2 ⊕ hyp 3 ⊕ sqr (var 2) ⊕ eqn 1 (var 2)) tt tt refl

-- An edge with the middle level is a point in the shadow, which then is flat.
edge_nought : (a b c p : Point) → leading (edge_numbers a b p) ≡ 1 → turn a b c ≡ pos 0
edge_nought a b c p e =
    let z = leading_none (edge_numbers a b p) e in
    prove≡ (coord 0 a ∷ coord 1 a ∷ coord 0 b ∷ coord 1 b ∷ coord 0 c ∷ coord 1 c ∷ [])
    ((var 1 ⊟ var 3 ≐ O) ∷ (var 2 ⊟ var 0 ≐ O) ∷ [])
    ((var 0 ⊟ var 4) ⊠ (var 3 ⊟ var 5) ⊟ (var 1 ⊟ var 5) ⊠ (var 2 ⊟ var 4)) O (num 1)
    (eqn 0 (var 4 ⊟ var 0) ⊕ eqn 1 (var 5 ⊟ var 1)) tt tt tt refl z.1.0 z.1.1.0

turn_on : (a b c : Point) → turn a b c ≡ turn b c a
turn_on a b c = ring (values (a ∷ b ∷ c ∷ [])) (turn_e 0 1 2) (turn_e 1 2 0) tt refl

-- ---- the theorem
-- Large enough for a triangle and a point.
abbrev pub enough_ahead : Point → Shape → ℕ
enough_ahead p [] = 1
enough_ahead p (a ∷ []) = 1
enough_ahead p (a ∷ b ∷ []) = 1
enough_ahead p (a ∷ b ∷ c ∷ []) =
    enough_for (edge_numbers (shadow_of a) (shadow_of b) (shadow_of p)) + enough_for (edge_numbers (shadow_of b) (shadow_of c) (shadow_of p))
    + enough_for (edge_numbers (shadow_of c) (shadow_of a) (shadow_of p)) + enough_for (plane_numbers a b c p)
enough_ahead p (a ∷ b ∷ c ∷ d ∷ more) = 1

module _ (n : ℕ) (p a b c : Point) (enough : enough_ahead p (a ∷ b ∷ c ∷ []) ≤ n) where
  abbrev N : ℤ
  N = turn_in 1 2 a b c

  abbrev e : ℤ
  e = edge_at n p a b

  abbrev f : ℤ
  f = edge_at n p b c

  abbrev g : ℤ
  g = edge_at n p c a

  abbrev h : ℤ
  h = plane_at n p a b c

  ab_level : Level (edge_level a b p) e
  ab_level = leads n (edge_numbers (shadow_of a) (shadow_of b) (shadow_of p)) (omega (arith, enough))

  bc_level : Level (edge_level b c p) f
  bc_level = leads n (edge_numbers (shadow_of b) (shadow_of c) (shadow_of p)) (omega (arith, enough))

  ca_level : Level (edge_level c a p) g
  ca_level = leads n (edge_numbers (shadow_of c) (shadow_of a) (shadow_of p)) (omega (arith, enough))

  plane_level_law : Level (plane_level a b c p) h
  plane_level_law = leads n (plane_numbers a b c p) (omega (arith, enough))

  n_some : pos 0 <ℤ pos n
  n_some = 0<-pos n (omega (arith, enough, enough_positive (plane_numbers a b c p)))

  q_some : pos 0 <ℤ square n
  q_some = 0<-mul n_some n_some

  abbrev Large : Type 0
  Large = Fits (enlarged n a) (enlarged n b) (enlarged n c) (nudged n p)

  -- Where the shadow is not flat, ahead is told by the four products.
  fits : (N ≡ pos 0 → ⊥) → Counted n p (a ∷ b ∷ c ∷ []) ↔ Large
  fits s =
      let large : pos 0 <ℤ (turn_in 1 2 (enlarged n a) (enlarged n b) (enlarged n c) *ℤ turn_in 1 2 (enlarged n a) (enlarged n b) (enlarged n c)) =
      larger N N (0<-mul q_some q_some) (0<-mul q_some q_some) (large_shadow n p a b c) (large_shadow n p a b c) (alike_itself N s) in
      let both = ahead_fits (enlarged n a) (enlarged n b) (enlarged n c) (nudged n p) large in (
        (λ k. both.0 k.ahead),
        (λ k. record { not_upright = λ u. s ((flat_in_plane (shadow_of a) (shadow_of b) (shadow_of c)).0 u); ahead = both.1 k }),
      )

  -- The product of an edge, at the enlarged points and by its polynomial.
  edge_fits : (v : ℤ) {x y : ℤ} → x ≡ square n *ℤ square n *ℤ N → y ≡ square n *ℤ v → Alike N v → pos 0 ≤ℤ (x *ℤ y)
  edge_fits v x_is y_is k = weak (larger N v (0<-mul q_some q_some) q_some x_is y_is k)

  edge_alike : (v : ℤ) {x y : ℤ} → x ≡ square n *ℤ square n *ℤ N → y ≡ square n *ℤ v → (N ≡ pos 0 → ⊥) → (v ≡ pos 0 → ⊥) → pos 0 ≤ℤ (x *ℤ y) → Alike N v
  edge_alike v x_is y_is s t k = alike_weak N v s t (smaller≤ N v (0<-mul q_some q_some) q_some x_is y_is k)

  counted_of_alike : AllAlike e f g h → Counted n p (a ∷ b ∷ c ∷ [])
  counted_of_alike s =
      let shadow : Alike e N = sum_alike (square n) N e f g q_some (edges_sum n p a b c) s.0 s.1.0 in
      let wide = large_shadow n p a b c in
      (fits (λ z. not_nought e N z shadow)).1
      (record {
        ab = edge_fits e wide (large_edge n p a b c) (alike_trade e N shadow);
        bc = edge_fits f wide (large_edge n p b c a) (alike_join e N f shadow s.0);
        ca = edge_fits g wide (large_edge n p c a b) (alike_join e N g shadow s.1.0);
        over = larger N h (0<-mul q_some q_some) (0<-mul q_some q_some) wide (large_plane n p a b c) (alike_join e N h shadow s.1.1);
      })

  alike_of_counted : Counted n p (a ∷ b ∷ c ∷ []) → AllAlike e f g h
  alike_of_counted k =
      let s : N ≡ pos 0 → ⊥ = λ z. k.not_upright ((flat_in_plane (shadow_of a) (shadow_of b) (shadow_of c)).1 z) in
      let fit = (fits s).0 k in
      let wide = large_shadow n p a b c in
      let next = turn_on (shadow_of a) (shadow_of b) (shadow_of c) in
      let third = next ∙ turn_on (shadow_of b) (shadow_of c) (shadow_of a) in
      let ab : Alike N e =
      edge_alike e wide (large_edge n p a b c) s
      (level_some (λ l. s (edge_nought (shadow_of a) (shadow_of b) (shadow_of c) (shadow_of p) l)) ab_level) fit.ab in
      let bc : Alike N f =
      edge_alike f wide (large_edge n p b c a) s
      (level_some (λ l. s (next ∙ edge_nought (shadow_of b) (shadow_of c) (shadow_of a) (shadow_of p) l)) bc_level) fit.bc in
      let ca : Alike N g =
      edge_alike g wide (large_edge n p c a b) s
      (level_some (λ l. s (third ∙ edge_nought (shadow_of c) (shadow_of a) (shadow_of b) (shadow_of p) l)) ca_level) fit.ca in
      let over = smaller< N h (0<-mul q_some q_some) (0<-mul q_some q_some) wide (large_plane n p a b c) fit.over in
      (alike_join N e f ab bc, (alike_join N e g ab ca, alike_join N e h ab over))

  pub counted_says : Says (is_ahead p (a ∷ b ∷ c ∷ [])) (Counted n p (a ∷ b ∷ c ∷ []))
  counted_says = says_same (counted_of_alike, alike_of_counted) (levels_alike ab_level bc_level ca_level plane_level_law)
