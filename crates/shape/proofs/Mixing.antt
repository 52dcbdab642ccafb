-- A shape whose corners are all points of another is a part of it: what meets the one meets the other. And a segment with a point of its own is
-- the two segments on either side of that point. Over any number of coordinates. Assumes nothing.
use mathlib.Core.Path.{◌≡◌, refl, sym, ◌∙◌, ap, ap₂}
use mathlib.Core.List.{List, [], ◌∷◌, map}
use mathlib.Core.Logic.{◌⊎◌, inl, inr}
use Prim.Native.Nat.{ℕ, zero, suc, ◌+◌, ◌-◌, ◌*◌, ◌≤◌, ◌<◌}
use native.Mathlib.Nat.{mul-le-mul, zero-mul}
use native.Mathlib.Omega.{arith}
use lib.ListN.{length, length-map}
use lib.IntN.{ℤ, pos, nat_abs, ◌+ℤ◌, ◌*ℤ◌, *ℤ-zero, zero-*ℤ}
use Rattle.algebra.proofs.Expression.{var, lit, ◌⊞◌, ◌⊟◌, ◌⊠◌, neg}
use Rattle.algebra.proofs.Solver.{ring, ◌≗◌, solve}
use Rattle.algebra.proofs.Certificate.{Rel, ◌≐◌, eqn, num, ◌⊕◌, prove≡}
use Rattle.shape.specs.Points.{Point, Shape, coord}
use Rattle.shape.specs.Sharing.{total, weigh, PointOf, Share}
use Rattle.shape.proofs.Weights.{Every, weigh_every, weigh_const}
use Rattle.shape.proofs.Trading.{scaled, coord_scaled}
use Rattle.shape.proofs.FlatLaws.{compared}

-- A mixture of the corners of R: weights with the sum s whose weighted sums are x. Unlike a point it may have the sum 0.
record Mixture (n : ℕ) (R : Shape) (s : ℤ) (x : ℕ → ℤ) : Type 0 where
  ws : List ℕ
  each : length ws ≡ length R
  sum : pos (total ws) ≡ s
  mixed : (i : ℕ) → i < n → weigh (coord i) ws R ≡ x i

-- ---- mixtures are points
mixture_of : {n : ℕ} {R : Shape} {s : ℕ} {x : Point} → PointOf n R s x → Mixture n R (pos s) (λ i. coord i x)
mixture_of p = record { ws = p.weights; each = p.each; sum = ap pos p.sum; mixed = p.mixed }

-- The mixture that is t times the point x with the sum s.
point_of : {n : ℕ} {R : Shape} {s : ℕ} (x : Point) (t : ℕ) → 1 ≤ t → 1 ≤ s →
    Mixture n R (pos t *ℤ pos s) (λ i. pos t *ℤ coord i x) → PointOf n R (t * s) (scaled (pos t) x)
point_of {s} x t some-t some-s m = record {
  weights = m.ws;
  each = m.each;
  sum = ap nat_abs m.sum;
  some = mul-le-mul {n₁ = 1} {m₁ = 1} {n₂ = t} {m₂ = s} some-t some-s;
  mixed = λ i l. m.mixed i l ∙ sym (coord_scaled (pos t) i x);
}

-- A corner that is a point of R, taken s times, is a mixture of R.
corner_mixture : {n : ℕ} {a : Point} {R : Shape} (h : Share n (a ∷ []) R) → Mixture n R (pos h.s) (λ i. pos h.s *ℤ coord i a)
corner_mixture {a} h =
    let p = h.of_first in
    let q = h.of_second in
    record {
      ws = q.weights;
      each = q.each;
      sum = ap pos q.sum;
      mixed = λ i l.
          q.mixed i l
          ∙ sym (p.mixed i l)
          ∙ weigh_every (coord i) (λ b. coord i a) p.weights (a ∷ []) (refl, tt)
          ∙ weigh_const (coord i a) p.weights (a ∷ []) p.each
          ∙ ap (λ (t : ℕ). pos t *ℤ coord i a) p.sum;
    }

-- ---- nothing, so many times, and a sum
nothing : {n : ℕ} (R : Shape) → Mixture n R (pos 0) (λ i. pos 0)
nothing [] = record { ws = []; each = refl; sum = refl; mixed = λ i l. refl }
nothing {n} (a ∷ R) =
    let m = nothing {n = n} R in
    record { ws = 0 ∷ m.ws; each = ap suc m.each; sum = ap (λ (z : ℤ). pos 0 +ℤ z) m.sum; mixed = λ i l. ap₂ ◌+ℤ◌ (zero-*ℤ (coord i a)) (m.mixed i l) }

total_times : (c : ℕ) (ws : List ℕ) → pos (total (map (λ w. c * w) ws)) ≡ pos c *ℤ pos (total ws)
total_times c [] = sym (*ℤ-zero (pos c))
total_times c (w ∷ ws) =
    ap (λ (z : ℤ). pos c *ℤ pos w +ℤ z) (total_times c ws)
    ∙ solve 3 (λ a b d. a ⊠ b ⊞ a ⊠ d ≗ a ⊠ (b ⊞ d)) (tt, refl) (pos c) (pos w) (pos (total ws))

weigh_times : (c : ℕ) (f : Point → ℤ) (ws : List ℕ) (R : Shape) → weigh f (map (λ w. c * w) ws) R ≡ pos c *ℤ weigh f ws R
weigh_times c f [] R = sym (*ℤ-zero (pos c))
weigh_times c f (w ∷ ws) [] = sym (*ℤ-zero (pos c))
weigh_times c f (w ∷ ws) (a ∷ R) =
    ap (λ (z : ℤ). pos c *ℤ pos w *ℤ f a +ℤ z) (weigh_times c f ws R)
    ∙ solve 4 (λ a b d e. a ⊠ b ⊠ d ⊞ a ⊠ e ≗ a ⊠ (b ⊠ d ⊞ e)) (tt, refl) (pos c) (pos w) (f a) (weigh f ws R)

times : {n : ℕ} {R : Shape} {s : ℤ} {x : ℕ → ℤ} (c : ℕ) → Mixture n R s x → Mixture n R (pos c *ℤ s) (λ i. pos c *ℤ x i)
times {R} c m = record {
  ws = map (λ w. c * w) m.ws;
  each = length-map m.ws (λ w. c * w) ∙ m.each;
  sum = total_times c m.ws ∙ ap (λ (z : ℤ). pos c *ℤ z) m.sum;
  mixed = λ i l. weigh_times c (coord i) m.ws R ∙ ap (λ (z : ℤ). pos c *ℤ z) (m.mixed i l);
}

-- Weights added one by one.
abbrev both : List ℕ → List ℕ → List ℕ
both [] vs = vs
both (u ∷ us) [] = u ∷ us
both (u ∷ us) (v ∷ vs) = (u + v) ∷ both us vs

length_both : (us vs : List ℕ) → length us ≡ length vs → length (both us vs) ≡ length us
length_both [] [] e = refl
length_both [] (v ∷ vs) e = absurd (omega (arith, e))
length_both (u ∷ us) [] e = refl
length_both (u ∷ us) (v ∷ vs) e = ap suc (length_both us vs (omega (arith, e)))

total_both : (us vs : List ℕ) → total (both us vs) ≡ total us + total vs
total_both [] vs = omega arith
total_both (u ∷ us) [] = omega arith
total_both (u ∷ us) (v ∷ vs) = omega (arith, total_both us vs)

weigh_both : (f : Point → ℤ) (us vs : List ℕ) (R : Shape) → weigh f (both us vs) R ≡ weigh f us R +ℤ weigh f vs R
weigh_both f [] vs R = solve 1 (λ z. z ≗ lit (pos 0) ⊞ z) (tt, refl) (weigh f vs R)
weigh_both f (u ∷ us) [] R = solve 1 (λ z. z ≗ z ⊞ lit (pos 0)) (tt, refl) (weigh f (u ∷ us) R)
weigh_both f (u ∷ us) (v ∷ vs) [] = refl
weigh_both f (u ∷ us) (v ∷ vs) (a ∷ R) =
    ap (λ (z : ℤ). (pos u +ℤ pos v) *ℤ f a +ℤ z) (weigh_both f us vs R)
    ∙ solve 5 (λ u v y X Y. (u ⊞ v) ⊠ y ⊞ (X ⊞ Y) ≗ u ⊠ y ⊞ X ⊞ (v ⊠ y ⊞ Y)) (tt, refl) (pos u) (pos v) (f a) (weigh f us R) (weigh f vs R)

plus : {n : ℕ} {R : Shape} {s t : ℤ} {x y : ℕ → ℤ} → Mixture n R s x → Mixture n R t y → Mixture n R (s +ℤ t) (λ i. x i +ℤ y i)
plus {R} a b = record {
  ws = both a.ws b.ws;
  each = length_both a.ws b.ws (a.each ∙ sym b.each) ∙ a.each;
  sum = ap pos (total_both a.ws b.ws) ∙ ap₂ ◌+ℤ◌ a.sum b.sum;
  mixed = λ i l. weigh_both (coord i) a.ws b.ws R ∙ ap₂ ◌+ℤ◌ (a.mixed i l) (b.mixed i l);
}

-- ---- the weights of P as weights of R
-- A mixture of P, taken so many times, is one of R.
record Recast (n : ℕ) (R P : Shape) (us : List ℕ) : Type 0 where
  often : ℕ
  some : 1 ≤ often
  mixture : Mixture n R (pos often *ℤ pos (total us)) (λ i. pos often *ℤ weigh (coord i) us P)

-- The same mixture by other names for its sum and its weighted sums.
named : {n : ℕ} {R : Shape} {s t : ℤ} {x y : ℕ → ℤ} → s ≡ t → ((i : ℕ) → x i ≡ y i) → Mixture n R s x → Mixture n R t y
named e f m = record { ws = m.ws; each = m.each; sum = m.sum ∙ e; mixed = λ i l. m.mixed i l ∙ f i }

recast : {n : ℕ} (R P : Shape) → Every (λ a. Share n (a ∷ []) R) P → (us : List ℕ) → length us ≡ length P → Recast n R P us
recast {n} R P h [] e = record { often = 1; some = omega arith; mixture = nothing R }
recast {n} R [] h (u ∷ us) e = absurd (omega (arith, e))
recast {n} R (a ∷ P) h (u ∷ us) e =
    let rest = recast {n = n} R P h.1 us (omega (arith, e)) in
    let m = h.0.s in
    let t = rest.often in
    record {
      often = m * t;
      some = mul-le-mul {n₁ = 1} {m₁ = 1} {n₂ = m} {m₂ = t} h.0.of_first.some rest.some;
      mixture =
          named
          (solve 4 (λ u t m s. u ⊠ t ⊠ m ⊞ m ⊠ (t ⊠ s) ≗ m ⊠ t ⊠ (u ⊞ s)) (tt, refl) (pos u) (pos t) (pos m) (pos (total us)))
          (λ i. solve 5 (λ u t m x s. u ⊠ t ⊠ (m ⊠ x) ⊞ m ⊠ (t ⊠ s) ≗ m ⊠ t ⊠ (u ⊠ x ⊞ s)) (tt, refl) (pos u) (pos t) (pos m) (coord i a) (weigh (coord i) us P))
          (plus (times (u * t) (corner_mixture h.0)) (times m rest.mixture));
    }

-- Where every corner of P is a point of R, what meets P meets R.
pub absorbed : {n : ℕ} {P Q R : Shape} → Every (λ a. Share n (a ∷ []) R) P → Share n P Q → Share n R Q
absorbed {n} {P} {Q} {R} h meet =
    let p = meet.of_first in
    let q = meet.of_second in
    let r = recast R P h p.weights p.each in
    record {
      s = r.often * meet.s;
      x = scaled (pos r.often) meet.x;
      of_first = point_of meet.x r.often r.some p.some
          (record {
            ws = r.mixture.ws;
            each = r.mixture.each;
            sum = r.mixture.sum ∙ ap (λ (t : ℕ). pos r.often *ℤ pos t) p.sum;
            mixed = λ i l. r.mixture.mixed i l ∙ ap (λ (z : ℤ). pos r.often *ℤ z) (p.mixed i l);
          });
      of_second = point_of meet.x r.often r.some q.some (times r.often (mixture_of q));
    }

-- ---- a segment in two: where b is a point of the segment c a, what meets it meets a b or b c
-- A mixture of two corners, by its two weights.
record TwoWeights (n : ℕ) (c a : Point) (s : ℤ) (x : ℕ → ℤ) : Type 0 where
  of_c : ℕ
  of_a : ℕ
  sum : pos of_c +ℤ pos of_a ≡ s
  mixed : (i : ℕ) → i < n → pos of_c *ℤ coord i c +ℤ pos of_a *ℤ coord i a ≡ x i

two_weights : {n : ℕ} {c a : Point} {s : ℤ} {x : ℕ → ℤ} → Mixture n (c ∷ a ∷ []) s x → TwoWeights n c a s x
two_weights {n} {c} {a} {s} {x} m = by_list m.ws m.each m.sum m.mixed
  where
    by_list : (ws : List ℕ) → length ws ≡ 2 → pos (total ws) ≡ s → ((i : ℕ) → i < n → weigh (coord i) ws (c ∷ a ∷ []) ≡ x i) → TwoWeights n c a s x
    by_list [] e sum mixed = absurd (omega (arith, e))
    by_list (u ∷ []) e sum mixed = absurd (omega (arith, e))
    by_list (u ∷ v ∷ w ∷ ws) e sum mixed = absurd (omega (arith, e))
    by_list (u ∷ v ∷ []) e sum mixed = record {
      of_c = u;
      of_a = v;
      sum = solve 2 (λ u v. u ⊞ v ≗ u ⊞ (v ⊞ lit (pos 0))) (tt, refl) (pos u) (pos v) ∙ sum;
      mixed = λ i l.
          solve 4 (λ u c v a. u ⊠ c ⊞ v ⊠ a ≗ u ⊠ c ⊞ (v ⊠ a ⊞ lit (pos 0))) (tt, refl) (pos u) (coord i c) (pos v) (coord i a) ∙ mixed i l;
    }

-- And back.
from_two : {n : ℕ} {d e : Point} {s : ℤ} {x : ℕ → ℤ} (u v : ℕ) → pos u +ℤ pos v ≡ s →
    ((i : ℕ) → i < n → pos u *ℤ coord i d +ℤ pos v *ℤ coord i e ≡ x i) → Mixture n (d ∷ e ∷ []) s x
from_two {d} {e} u v sum mixed = record {
  ws = u ∷ v ∷ [];
  each = refl;
  sum = solve 2 (λ u v. u ⊞ (v ⊞ lit (pos 0)) ≗ u ⊞ v) (tt, refl) (pos u) (pos v) ∙ sum;
  mixed = λ i l.
      solve 4 (λ u c v a. u ⊠ c ⊞ (v ⊠ a ⊞ lit (pos 0)) ≗ u ⊠ c ⊞ v ⊠ a) (tt, refl) (pos u) (coord i d) (pos v) (coord i e) ∙ mixed i l;
}

-- The larger of two natural numbers is the smaller and the rest.
rest : (x y : ℕ) → y ≤ x → pos (x - y) +ℤ pos y ≡ pos x
rest x y h = ap pos (omega arith)

-- A product that is above something has a first factor.
some_factor : (t w x : ℕ) → x < t * w → 1 ≤ t
some_factor zero w x h = absurd (omega (arith, zero-mul w, h))
some_factor (suc t) w x h = omega arith

module _ {n : ℕ} {Q : Shape} (a b c : Point) (between : Share n (b ∷ []) (c ∷ a ∷ [])) (meet : Share n (c ∷ a ∷ []) Q) where
  -- m b is p c and q a, and x, with the sum s, is u c and v a.
  abbrev m : ℕ
  m = between.s

  of_b : TwoWeights n c a (pos m) (λ i. pos m *ℤ coord i b)
  of_b = two_weights (corner_mixture between)

  of_x : TwoWeights n c a (pos meet.s) (λ i. coord i meet.x)
  of_x = two_weights (mixture_of meet.of_first)

  abbrev p : ℕ
  p = of_b.of_c

  abbrev q : ℕ
  q = of_b.of_a

  abbrev u : ℕ
  u = of_x.of_c

  abbrev v : ℕ
  v = of_x.of_a

  -- A mixture of another shape that is x taken t times: it meets Q too.
  meets_there : {R : Shape} (t : ℕ) → 1 ≤ t → Mixture n R (pos t *ℤ pos meet.s) (λ i. pos t *ℤ coord i meet.x) → Share n R Q
  meets_there t some-t mixture = record {
    s = t * meet.s;
    x = scaled (pos t) meet.x;
    of_first = point_of meet.x t some-t meet.of_first.some mixture;
    of_second = point_of meet.x t some-t meet.of_first.some (times t (mixture_of meet.of_second));
  }

  -- The numbers u v p q m s, coordinate i of b, c, a and x, and a number k. What is known: the two sums, the two mixtures, and one relation more.
  abbrev numbers : ℕ → ℕ → List ℤ
  numbers i k =
      pos u ∷ pos v ∷ pos p ∷ pos q ∷ pos m ∷ pos meet.s ∷ coord i b ∷ coord i c ∷ coord i a ∷ coord i meet.x ∷ pos k ∷ []

  abbrev known : Rel → List Rel
  known more = (var 0 ⊞ var 1 ≐ var 5) ∷ (var 2 ⊞ var 3 ≐ var 4) ∷ more ∷ []

  abbrev known_at : Rel → List Rel
  known_at more =
      (var 0 ⊠ var 7 ⊞ var 1 ⊠ var 8 ≐ var 9) ∷ (var 2 ⊠ var 7 ⊞ var 3 ⊠ var 8 ≐ var 4 ⊠ var 6) ∷ known more

  -- x is nearer to c than b is: b taken v m times and c taken q u - p v times are x taken q times.
  on_bc : p * v < q * u → Share n (b ∷ c ∷ []) Q
  on_bc h =
      let k = q * u - p * v in
      let more : pos k +ℤ pos p *ℤ pos v ≡ pos q *ℤ pos u = rest (q * u) (p * v) (omega (arith, h)) in
      let more_e = var 10 ⊞ var 2 ⊠ var 1 ≐ var 3 ⊠ var 0 in
      meets_there q (some_factor q u (p * v) h)
      (from_two (v * m) k
      (prove≡ (numbers 0 k) (known more_e) (var 1 ⊠ var 4 ⊞ var 10) (var 3 ⊠ var 5) (num 1)
      (eqn 0 (var 3) ⊕ eqn 1 (neg (var 1)) ⊕ eqn 2 (lit (pos 1))) tt tt tt refl of_x.sum of_b.sum more)
      (λ i l.
      prove≡ (numbers i k) (known_at more_e) (var 1 ⊠ var 4 ⊠ var 6 ⊞ var 10 ⊠ var 7) (var 3 ⊠ var 9) (num 1)
      (eqn 0 (var 3) ⊕ eqn 1 (neg (var 1)) ⊕ eqn 4 (var 7)) tt tt tt refl (of_x.mixed i l) (of_b.mixed i l) of_x.sum of_b.sum more))

  -- x is farther: a taken p v - q u times and b taken u m times are x taken p times.
  on_ab : q * u < p * v → Share n (a ∷ b ∷ []) Q
  on_ab h =
      let k = p * v - q * u in
      let more : pos k +ℤ pos q *ℤ pos u ≡ pos p *ℤ pos v = rest (p * v) (q * u) (omega (arith, h)) in
      let more_e = var 10 ⊞ var 3 ⊠ var 0 ≐ var 2 ⊠ var 1 in
      meets_there p (some_factor p v (q * u) h)
      (from_two k (u * m)
      (prove≡ (numbers 0 k) (known more_e) (var 10 ⊞ var 0 ⊠ var 4) (var 2 ⊠ var 5) (num 1)
      (eqn 0 (var 2) ⊕ eqn 1 (neg (var 0)) ⊕ eqn 2 (lit (pos 1))) tt tt tt refl of_x.sum of_b.sum more)
      (λ i l.
      prove≡ (numbers i k) (known_at more_e) (var 10 ⊠ var 8 ⊞ var 0 ⊠ var 4 ⊠ var 6) (var 2 ⊠ var 9) (num 1)
      (eqn 0 (var 2) ⊕ eqn 1 (neg (var 0)) ⊕ eqn 4 (var 8)) tt tt tt refl (of_x.mixed i l) (of_b.mixed i l) of_x.sum of_b.sum more))

  -- x is b: taken s m times it is x taken m times.
  at_b : q * u ≡ p * v → Share n (b ∷ c ∷ []) Q
  at_b e =
      let more_e = var 3 ⊠ var 0 ≐ var 2 ⊠ var 1 in
      meets_there m between.of_first.some
      (from_two (meet.s * m) 0
      (ring (numbers 0 0) (var 5 ⊠ var 4 ⊞ lit (pos 0)) (var 4 ⊠ var 5) tt refl)
      (λ i l.
      prove≡ (numbers i 0) (known_at more_e) (var 5 ⊠ var 4 ⊠ var 6 ⊞ lit (pos 0) ⊠ var 7) (var 4 ⊠ var 9) (num 1)
      (eqn 0 (var 4) ⊕ eqn 1 (neg (var 5)) ⊕ eqn 2 (neg (var 2 ⊠ var 7 ⊞ var 3 ⊠ var 8)) ⊕ eqn 3 (var 0 ⊠ var 7 ⊞ var 1 ⊠ var 8) ⊕ eqn 4 (var 8 ⊟ var 7))
      tt tt tt refl (of_x.mixed i l) (of_b.mixed i l) of_x.sum of_b.sum (ap pos e)))

  pub in_two : Share n (a ∷ b ∷ []) Q ⊎ Share n (b ∷ c ∷ []) Q
  in_two = by_order (compared (q * u) (p * v))
    where
      by_order : (q * u < p * v) ⊎ ((q * u ≡ p * v) ⊎ (p * v < q * u)) → Share n (a ∷ b ∷ []) Q ⊎ Share n (b ∷ c ∷ []) Q
      by_order (inl h) = inl (on_ab h)
      by_order (inr (inl e)) = inr (at_b e)
      by_order (inr (inr h)) = inr (on_bc h)
