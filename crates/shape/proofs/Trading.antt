-- What doesn't change whether two shapes have a point in common: trading the shapes, reordering corners, adding corners
-- (a part of a shape's corners is part of the shape), and moving both by one vector. Assumes nothing.
use mathlib.Core.Path.{◌≡◌, refl, sym, ◌∙◌, ap, ap₂}
use mathlib.Core.List.{List, [], ◌∷◌, map}
use mathlib.Core.Logic.{◌⊎◌, inl, inr, ◌↔◌}
use Prim.Native.Nat.{ℕ, zero, suc, ◌+◌}
use native.Mathlib.Omega.{arith}
use lib.ListN.{length, length-map}
use lib.IntN.{ℤ, pos, neg_ℤ, ◌+ℤ◌, ◌*ℤ◌, +ℤ_idl, +ℤ_idr, *ℤ-zero, zero-*ℤ}
use Rattle.algebra.proofs.Expression.{var, lit, ◌⊞◌, ◌⊠◌, neg}
use Rattle.algebra.proofs.Solver.{◌≗◌, solve}
use Rattle.algebra.proofs.Certificate.{◌≐◌, eqn, num, ◌⊕◌, prove≡}
use Rattle.shape.specs.Points.{Point, Shape, coord, moved, moved_all}
use Rattle.shape.specs.Sharing.{total, weigh, PointOf, Share}
use Rattle.shape.proofs.Weights.{weigh_add, weigh_const, weigh_map, weigh_every, every_point}

-- ---- trading the shapes
pub share_trade : {n : ℕ} {P Q : Shape} → Share n P Q → Share n Q P
share_trade h = record { s = h.s; x = h.x; of_first = h.of_second; of_second = h.of_first }

-- ---- corners in another order, or among more corners
abbrev pub In : Point → Shape → Type 0
In a [] = ⊥
In a (b ∷ P) = (a ≡ b) ⊎ In a P

-- The corners of a triangle.
pub first : {a b c : Point} → In a (a ∷ b ∷ c ∷ [])
first = inl refl

pub second : {a b c : Point} → In b (a ∷ b ∷ c ∷ [])
second = inr (inl refl)

pub third : {a b c : Point} → In c (a ∷ b ∷ c ∷ [])
third = inr (inr (inl refl))

-- Every corner of the first shape is a corner of the second: the same corners in another order, or a part of them.
abbrev pub Among : Shape → Shape → Type 0
Among [] R = Unit {0}
Among (a ∷ P) R = In a R × Among P R

-- A shape's own corners are among them.
among_more : (b : Point) (P R : Shape) → Among P R → Among P (b ∷ R)
among_more b [] R m = tt
among_more b (a ∷ P) R m = (inr m.0, among_more b P R m.1)

pub among_itself : (P : Shape) → Among P P
among_itself [] = tt
among_itself (a ∷ P) = (inl refl, among_more a P P (among_itself P))

-- Weights for the corners of R that add up to s and give every function f the sum that g says.
record WeightsFor (R : Shape) (s : ℕ) (g : (Point → ℤ) → ℤ) : Type 0 where
  ws : List ℕ
  each : length ws ≡ length R
  sum : total ws ≡ s
  gives : (f : Point → ℤ) → weigh f ws R ≡ g f

no_weight : (R : Shape) → WeightsFor R 0 (λ f. pos 0)
no_weight [] = record { ws = []; each = refl; sum = refl; gives = λ f. refl }
no_weight (a ∷ R) =
    let r = no_weight R in
    record { ws = 0 ∷ r.ws; each = ap suc r.each; sum = omega (arith, r.sum); gives = λ f. ap₂ ◌+ℤ◌ (zero-*ℤ (f a)) (r.gives f) }

-- The weight w more for the corner a of R.
more_weight : (a : Point) (w : ℕ) (R : Shape) → In a R → (us : List ℕ) → length us ≡ length R →
    WeightsFor R (w + total us) (λ f. pos w *ℤ f a +ℤ weigh f us R)
more_weight a w [] i us e = absurd i
more_weight a w (b ∷ R) i [] e = absurd (omega (arith, e))
more_weight a w (b ∷ R) (inl p) (u ∷ us) e = record {
  ws = (w + u) ∷ us;
  each = e;
  sum = omega arith;
  gives = λ f.
      solve 4 (λ w u y X. (w ⊞ u) ⊠ y ⊞ X ≗ w ⊠ y ⊞ (u ⊠ y ⊞ X)) (tt, refl) (pos w) (pos u) (f b) (weigh f us R)
      ∙ ap (λ (c : Point). pos w *ℤ f c +ℤ (pos u *ℤ f b +ℤ weigh f us R)) (sym p);
}
more_weight a w (b ∷ R) (inr i) (u ∷ us) e =
    let r = more_weight a w R i us (omega (arith, e)) in
    record {
      ws = u ∷ r.ws;
      each = ap suc r.each;
      sum = omega (arith, r.sum);
      gives = λ f.
          ap (λ (z : ℤ). pos u *ℤ f b +ℤ z) (r.gives f)
          ∙ solve 5 (λ u y w x X. u ⊠ y ⊞ (w ⊠ x ⊞ X) ≗ w ⊠ x ⊞ (u ⊠ y ⊞ X)) (tt, refl) (pos u) (f b) (pos w) (f a) (weigh f us R);
    }

-- The weights of P, given to the same corners of R.
spread : (P R : Shape) → Among P R → (us : List ℕ) → length us ≡ length P → WeightsFor R (total us) (λ f. weigh f us P)
spread [] R m [] e = no_weight R
spread [] R m (u ∷ us) e = absurd (omega (arith, e))
spread (a ∷ P) R m [] e = absurd (omega (arith, e))
spread (a ∷ P) R m (u ∷ us) e =
    let r = spread P R m.1 us (omega (arith, e)) in
    let t = more_weight a u R m.0 r.ws r.each in
    record {
      ws = t.ws;
      each = t.each;
      sum = omega (arith, t.sum, r.sum);
      gives = λ f. t.gives f ∙ ap (λ (z : ℤ). pos u *ℤ f a +ℤ z) (r.gives f);
    }

-- A point of some of a shape's corners, in any order, is a point of the shape.
pub point_among : {n : ℕ} {P R : Shape} {s : ℕ} {x : Point} → Among P R → PointOf n P s x → PointOf n R s x
point_among {P} {R} m p =
    let r = spread P R m p.weights p.each in
    record { weights = r.ws; each = r.each; sum = r.sum ∙ p.sum; some = p.some; mixed = λ i l. r.gives (coord i) ∙ p.mixed i l }

pub share_among : {n : ℕ} {P Q P' Q' : Shape} → Among P P' → Among Q Q' → Share n P Q → Share n P' Q'
share_among m m' h =
    record { s = h.s; x = h.x; of_first = point_among m h.of_first; of_second = point_among m' h.of_second }

-- Reordering the corners of either shape leaves the verdict.
pub share_reorder : {n : ℕ} {P Q P' Q' : Shape} → Among P P' → Among P' P → Among Q Q' → Among Q' Q → Share n P Q ↔ Share n P' Q'
share_reorder m m' k k' = (share_among m k, share_among m' k')

-- A triangle with its corners turned by one, by two, and with its last two corners swapped.
module _ {n : ℕ} (P : Shape) (a b c : Point) where
  pub share_turned : Share n P (b ∷ c ∷ a ∷ []) ↔ Share n P (a ∷ b ∷ c ∷ [])
  share_turned =
      share_reorder (among_itself P) (among_itself P) (second, (third, (first, tt))) (third, (first, (second, tt)))

  pub share_turned_twice : Share n P (c ∷ a ∷ b ∷ []) ↔ Share n P (a ∷ b ∷ c ∷ [])
  share_turned_twice =
      share_reorder (among_itself P) (among_itself P) (third, (first, (second, tt))) (second, (third, (first, tt)))

  pub share_mirrored : Share n P (a ∷ c ∷ b ∷ []) ↔ Share n P (a ∷ b ∷ c ∷ [])
  share_mirrored =
      share_reorder (among_itself P) (among_itself P) (first, (third, (second, tt))) (first, (third, (second, tt)))

-- ---- both shapes moved by one vector
pub coord_moved : (i : ℕ) (d a : Point) → coord i (moved d a) ≡ coord i d +ℤ coord i a
coord_moved i [] a = sym (+ℤ_idl (coord i a))
coord_moved i (d ∷ ds) [] = sym (+ℤ_idr (coord i (d ∷ ds)))
coord_moved zero (d ∷ ds) (x ∷ xs) = refl
coord_moved (suc i) (d ∷ ds) (x ∷ xs) = coord_moved i ds xs

-- A vector taken c times.
abbrev pub scaled : ℤ → Point → Point
scaled c d = map (λ z. c *ℤ z) d

pub coord_scaled : (c : ℤ) (i : ℕ) (d : Point) → coord i (scaled c d) ≡ c *ℤ coord i d
coord_scaled c i [] = sym (*ℤ-zero c)
coord_scaled c zero (d ∷ ds) = refl
coord_scaled c (suc i) (d ∷ ds) = coord_scaled c i ds

weigh_moved : (i : ℕ) (d : Point) (ws : List ℕ) (P : Shape) → length ws ≡ length P →
    weigh (coord i) ws (moved_all d P) ≡ pos (total ws) *ℤ coord i d +ℤ weigh (coord i) ws P
weigh_moved i d ws P e =
    weigh_map (coord i) (moved d) ws P
    ∙ weigh_every (λ a. coord i (moved d a)) (λ a. coord i d +ℤ coord i a) ws P (every_point (coord_moved i d) P)
    ∙ weigh_add (λ a. coord i d) (coord i) ws P
    ∙ ap (λ (z : ℤ). z +ℤ weigh (coord i) ws P) (weigh_const (coord i d) ws P e)

-- A point of a shape moves with it: its weighted sum, which is the point s times, moves by d taken s times.
pub point_moved : {n : ℕ} {P : Shape} {s : ℕ} {x : Point} (d : Point) →
    PointOf n P s x → PointOf n (moved_all d P) s (moved (scaled (pos s) d) x)
point_moved {P} {s} {x} d p = record {
  weights = p.weights;
  each = p.each ∙ sym (length-map P (moved d));
  sum = p.sum;
  some = p.some;
  mixed = λ i l.
      weigh_moved i d p.weights P p.each
      ∙ ap₂ (λ (t : ℕ) (z : ℤ). pos t *ℤ coord i d +ℤ z) p.sum (p.mixed i l)
      ∙ sym (coord_moved i (scaled (pos s) d) x ∙ ap (λ (z : ℤ). z +ℤ coord i x) (coord_scaled (pos s) i d));
}

pub share_moved : {n : ℕ} {P Q : Shape} (d : Point) → Share n P Q → Share n (moved_all d P) (moved_all d Q)
share_moved d h =
    record { s = h.s; x = moved (scaled (pos h.s) d) h.x; of_first = point_moved d h.of_first; of_second = point_moved d h.of_second }

-- And back: the same weights give a point of the shape as it was.
pub point_unmoved : {n : ℕ} {P : Shape} {s : ℕ} {x : Point} (d : Point) →
    PointOf n (moved_all d P) s x → PointOf n P s (moved (scaled (neg_ℤ (pos s)) d) x)
point_unmoved {P} {s} {x} d p =
    let e : length p.weights ≡ length P = p.each ∙ length-map P (moved d) in
    record {
      weights = p.weights;
      each = e;
      sum = p.sum;
      some = p.some;
      mixed = λ i l.
          take_back (pos (total p.weights)) (pos s) (coord i d) (weigh (coord i) p.weights P) (coord i x) (ap pos p.sum)
          (sym (weigh_moved i d p.weights P e) ∙ p.mixed i l)
          ∙ sym (coord_moved i (scaled (neg_ℤ (pos s)) d) x ∙ ap (λ (z : ℤ). z +ℤ coord i x) (coord_scaled (neg_ℤ (pos s)) i d));
    }
  where
    take_back : (t s d w x : ℤ) → t ≡ s → t *ℤ d +ℤ w ≡ x → w ≡ neg_ℤ s *ℤ d +ℤ x
    take_back t s d w x =
        prove≡ (t ∷ s ∷ d ∷ w ∷ x ∷ []) ((var 0 ≐ var 1) ∷ (var 0 ⊠ var 2 ⊞ var 3 ≐ var 4) ∷ [])
        (var 3) (neg (var 1) ⊠ var 2 ⊞ var 4) (num 1) (eqn 0 (neg (var 2)) ⊕ eqn 1 (lit (pos 1))) tt tt tt refl

pub share_unmoved : {n : ℕ} {P Q : Shape} (d : Point) → Share n (moved_all d P) (moved_all d Q) → Share n P Q
share_unmoved d h =
    record { s = h.s; x = moved (scaled (neg_ℤ (pos h.s)) d) h.x; of_first = point_unmoved d h.of_first; of_second = point_unmoved d h.of_second }

-- Moving both shapes by one vector leaves the verdict.
pub share_move : {n : ℕ} {P Q : Shape} (d : Point) → Share n P Q ↔ Share n (moved_all d P) (moved_all d Q)
share_move d = (share_moved d, share_unmoved d)
