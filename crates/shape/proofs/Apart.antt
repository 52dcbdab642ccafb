-- Apart by a functional: whole numbers c1 .. ck and m such that c·a + m ≤ 0 at every corner a of one shape and > 0 at
-- every corner of the other leave no point in common. Every "no" of the tests is an instance of `apart`, and so is that of boxes, along one
-- coordinate (`apart_along_law`). Assumes nothing.
use mathlib.Core.Path.{◌≡◌, refl, sym, ◌∙◌, ap, ap₂, subst}
use mathlib.Core.List.{List, [], ◌∷◌}
use Prim.Native.Nat.{ℕ, zero, suc, ◌+◌, ◌≤◌, ◌<◌}
use native.Mathlib.Omega.{arith}
use lib.ListN.{length}
use lib.IntN.{ℤ, pos, neg_ℤ, ◌+ℤ◌, ◌-ℤ◌, ◌*ℤ◌}
use lib.Signed.{◌≤ℤ◌, ◌<ℤ◌}
use Rattle.algebra.proofs.Expression.{var, lit, ◌⊞◌, ◌⊟◌, ◌⊠◌}
use Rattle.algebra.proofs.Solver.{ring}
use Rattle.algebra.proofs.Order.{0<-pos, one_le, sub_pos}
use Rattle.algebra.proofs.Certificate.{◌≦◌, ◌≺◌, hyp, num, ◌⊕◌, prove≤, prove⊥}
use Rattle.shape.specs.Points.{Point, Shape, coord}
use Rattle.shape.specs.Sharing.{weigh, PointOf, Share}
use Rattle.shape.proofs.Weights.{Every, every_so, weigh_add, weigh_scale, weigh_const, weigh_zero, weigh_le}

-- c·a, the first number of c going with coordinate i.
abbrev pub dot_from : ℕ → List ℤ → Point → ℤ
dot_from i [] a = pos 0
dot_from i (c ∷ cs) a = c *ℤ coord i a +ℤ dot_from (suc i) cs a

-- The functional c·a + m.
abbrev pub functional : List ℤ → ℤ → Point → ℤ
functional cs m a = dot_from 0 cs a +ℤ m

-- ---- at a point of a shape the functional is fixed by the point's name
module _ {n : ℕ} {P : Shape} {s : ℕ} {x : Point} (p : PointOf n P s x) where
  weigh_dot : (i : ℕ) (cs : List ℤ) → i + length cs ≤ n → weigh (dot_from i cs) p.weights P ≡ dot_from i cs x
  weigh_dot i [] l = weigh_zero p.weights P
  weigh_dot i (c ∷ cs) l =
      weigh_add (λ a. c *ℤ coord i a) (dot_from (suc i) cs) p.weights P
      ∙ ap₂ ◌+ℤ◌
      (weigh_scale c (coord i) p.weights P ∙ ap (λ (z : ℤ). c *ℤ z) (p.mixed i (omega arith)))
      (weigh_dot (suc i) cs (omega arith))

  pub weigh_functional : (cs : List ℤ) (m : ℤ) → length cs ≤ n → weigh (functional cs m) p.weights P ≡ dot_from 0 cs x +ℤ pos s *ℤ m
  weigh_functional cs m l =
      weigh_add (dot_from 0 cs) (λ a. m) p.weights P
      ∙ ap₂ ◌+ℤ◌
      (weigh_dot 0 cs (omega arith))
      (weigh_const m p.weights P p.each ∙ ap (λ (t : ℕ). pos t *ℤ m) p.sum)

  -- at most zero at every corner: at most zero at the point
  low_point : (cs : List ℤ) (m : ℤ) → length cs ≤ n → Every (λ a. functional cs m a ≤ℤ pos 0) P → (dot_from 0 cs x +ℤ pos s *ℤ m) ≤ℤ pos 0
  low_point cs m l h =
      subst (λ (z : ℤ). z ≤ℤ pos 0) (weigh_functional cs m l)
      (subst (λ (z : ℤ). weigh (functional cs m) p.weights P ≤ℤ z) (weigh_zero p.weights P)
      (weigh_le (functional cs m) (λ a. pos 0) p.weights P h))

  -- at least one at every corner: at least s at the point
  high_point : (cs : List ℤ) (m : ℤ) → length cs ≤ n → Every (λ a. pos 1 ≤ℤ functional cs m a) P → (pos s *ℤ pos 1) ≤ℤ (dot_from 0 cs x +ℤ pos s *ℤ m)
  high_point cs m l h =
      subst (λ (z : ℤ). (pos s *ℤ pos 1) ≤ℤ z) (weigh_functional cs m l)
      (subst (λ (z : ℤ). z ≤ℤ weigh (functional cs m) p.weights P) (weigh_const (pos 1) p.weights P p.each ∙ ap (λ (t : ℕ). pos t *ℤ pos 1) p.sum)
      (weigh_le (λ a. pos 1) (functional cs m) p.weights P h))

pub apart : {n : ℕ} {P Q : Shape} (cs : List ℤ) (m : ℤ) → length cs ≤ n →
    Every (λ a. functional cs m a ≤ℤ pos 0) P → Every (λ a. pos 0 <ℤ functional cs m a) Q → Share n P Q → ⊥
apart {Q} cs m l below above h =
    clash (dot_from 0 cs h.x +ℤ pos h.s *ℤ m) (pos h.s)
    (low_point h.of_first cs m l below)
    (high_point h.of_second cs m l (every_so (λ a. one_le) Q above))
    (0<-pos h.s h.of_first.some)
  where
    clash : (z s : ℤ) → z ≤ℤ pos 0 → (s *ℤ pos 1) ≤ℤ z → pos 0 <ℤ s → ⊥
    clash z s =
        prove⊥ (z ∷ s ∷ []) ((var 0 ≦ lit (pos 0)) ∷ (var 1 ⊠ lit (pos 1) ≦ var 0) ∷ (lit (pos 0) ≺ var 1) ∷ [])
        (hyp 0 ⊕ hyp 1 ⊕ hyp 2) tt tt refl

-- ---- along one coordinate: no corner of one shape is past g at coordinate k, and every corner of the other is
-- The numbers of the functional that gives coordinate k.
abbrev unit : ℕ → List ℤ
unit zero = pos 1 ∷ []
unit (suc k) = pos 0 ∷ unit k

dot_unit : (k i : ℕ) (a : Point) → dot_from i (unit k) a ≡ coord (i + k) a
dot_unit zero i a =
    ring (coord i a ∷ []) (lit (pos 1) ⊠ var 0 ⊞ lit (pos 0)) (var 0) tt refl ∙ ap (λ (c : ℕ). coord c a) (omega arith)
dot_unit (suc k) i a =
    ring (coord i a ∷ dot_from (suc i) (unit k) a ∷ []) (lit (pos 0) ⊠ var 0 ⊞ var 1) (var 1) tt refl
    ∙ dot_unit k (suc i) a
    ∙ ap (λ (c : ℕ). coord c a) (omega arith)

unit_short : {n : ℕ} (k : ℕ) → k < n → length (unit k) ≤ n
unit_short {n} k h = omega (arith, long k)
  where
    long : (k : ℕ) → length (unit k) ≡ suc k
    long zero = refl
    long (suc k) = ap suc (long k)

pub apart_along_law : {n : ℕ} {P Q : Shape} (k : ℕ) (g : ℤ) → k < n → Every (λ a. coord k a ≤ℤ g) P → Every (λ a. g <ℤ coord k a) Q → Share n P Q → ⊥
apart_along_law {P} {Q} k g h below above = apart (unit k) (neg_ℤ g) (unit_short k h) (low P below) (high Q above)
  where
    at_corner : (a : Point) → functional (unit k) (neg_ℤ g) a ≡ coord k a -ℤ g
    at_corner a = ap (λ (z : ℤ). z -ℤ g) (dot_unit k 0 a ∙ ap (λ (c : ℕ). coord c a) (omega arith))

    not_past : (x : ℤ) → x ≤ℤ g → (x -ℤ g) ≤ℤ pos 0
    not_past x = prove≤ (x ∷ g ∷ []) ((var 0 ≦ var 1) ∷ []) (var 0 ⊟ var 1) (lit (pos 0)) (num 1) (hyp 0) tt tt refl

    low : (P : Shape) → Every (λ a. coord k a ≤ℤ g) P → Every (λ a. functional (unit k) (neg_ℤ g) a ≤ℤ pos 0) P
    low [] e = tt
    low (a ∷ P) e = (subst (λ (z : ℤ). z ≤ℤ pos 0) (sym (at_corner a)) (not_past (coord k a) e.0), low P e.1)

    high : (Q : Shape) → Every (λ a. g <ℤ coord k a) Q → Every (λ a. pos 0 <ℤ functional (unit k) (neg_ℤ g) a) Q
    high [] e = tt
    high (a ∷ Q) e = (subst (λ (z : ℤ). pos 0 <ℤ z) (sym (at_corner a)) (sub_pos e.0), high Q e.1)
