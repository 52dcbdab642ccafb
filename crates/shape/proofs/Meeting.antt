-- Meeting by weights: that `Share` is document 01's definition word for word, and how to show it. In proofs the weights are
-- whole numbers shown to be not negative; the definition's natural numbers are reached once, here. Assumes nothing.
use mathlib.Core.Path.{◌≡◌, refl, sym, ◌∙◌, ap, ap₂, subst}
use mathlib.Core.List.{List, [], ◌∷◌, map}
use mathlib.Core.Logic.{◌↔◌}
use Prim.Native.Nat.{ℕ, zero, suc, ◌≤◌, ◌<◌}
use native.Mathlib.Omega.{arith}
use lib.ListN.{length, length-map}
use lib.Dec.{ltb→lt}
use lib.IntN.{ℤ, pos, nat_abs, ◌+ℤ◌, ◌*ℤ◌}
use lib.Signed.{◌≤ℤ◌, ◌<ℤ◌, yes_non_neg, pos-nat_abs}
use Rattle.shape.specs.Points.{Point, Shape, coord}
use Rattle.shape.specs.Sharing.{total, weigh, Share}
use Rattle.shape.proofs.Steps.{sums_agree, some_weight}

-- ---- a point with given coordinates
abbrev pub point_with : ℕ → (ℕ → ℤ) → Point
point_with zero f = []
point_with (suc n) f = f 0 ∷ point_with n (λ i. f (suc i))

pub coord_point_with : (n : ℕ) (f : ℕ → ℤ) (i : ℕ) → i < n → coord i (point_with n f) ≡ f i
coord_point_with zero f i l = absurd (omega arith)
coord_point_with (suc n) f zero l = refl
coord_point_with (suc n) f (suc i) l = coord_point_with n (λ j. f (suc j)) i (omega arith)

-- ---- having a point in common, in document 01's own words
-- Whole weights for the corners of each shape, none negative, with one sum, which is at least 1, whose weighted sums agree in
-- each coordinate.
pub record CommonWeights (n : ℕ) (P Q : Shape) : Type 0 where
  pub us : List ℕ
  pub ws : List ℕ
  pub us_each : length us ≡ length P
  pub ws_each : length ws ≡ length Q
  pub same : total us ≡ total ws
  pub some : 1 ≤ total us
  pub agree : (i : ℕ) → i < n → weigh (coord i) us P ≡ weigh (coord i) ws Q

pub share_of_weights : {n : ℕ} {P Q : Shape} → CommonWeights n P Q → Share n P Q
share_of_weights {n} {P} {Q} h =
    record {
      s = total h.us;
      x = point_with n sums;
      of_first = record { weights = h.us; each = h.us_each; sum = refl; some = omega (arith, h.some); mixed = λ i l. sym (coord_point_with n sums i (omega (arith, l))) };
      of_second = record {
        weights = h.ws;
        each = h.ws_each;
        sum = sym h.same;
        some = omega (arith, h.some);
        mixed = λ i l. sym (h.agree i (omega (arith, l))) ∙ sym (coord_point_with n sums i (omega (arith, l)));
      };
    }
  where
    sums : ℕ → ℤ
    sums i = weigh (coord i) h.us P

pub weights_of_share : {n : ℕ} {P Q : Shape} → Share n P Q → CommonWeights n P Q
weights_of_share h =
    record {
      us = h.of_first.weights;
      ws = h.of_second.weights;
      us_each = h.of_first.each;
      ws_each = h.of_second.each;
      same = h.of_first.sum ∙ sym h.of_second.sum;
      some = some_weight h;
      agree = sums_agree h;
    }

-- One point with one name, or weights that agree: the same.
pub share_is_weights : {n : ℕ} {P Q : Shape} → Share n P Q ↔ CommonWeights n P Q
share_is_weights = (weights_of_share, share_of_weights)

-- ---- weights as whole numbers that are not negative
abbrev pub NonNegative : List ℤ → Type 0
NonNegative [] = Unit {0}
NonNegative (z ∷ zs) = (pos 0 ≤ℤ z) × NonNegative zs

abbrev pub totalℤ : List ℤ → ℤ
totalℤ [] = pos 0
totalℤ (z ∷ zs) = z +ℤ totalℤ zs

abbrev pub weighℤ : (Point → ℤ) → List ℤ → Shape → ℤ
weighℤ f [] P = pos 0
weighℤ f (w ∷ ws) [] = pos 0
weighℤ f (w ∷ ws) (a ∷ P) = w *ℤ f a +ℤ weighℤ f ws P

natural : (z : ℤ) → pos 0 ≤ℤ z → pos (nat_abs z) ≡ z
natural z h = pos-nat_abs z (yes_non_neg h)

pub total_natural : (zs : List ℤ) → NonNegative zs → pos (total (map nat_abs zs)) ≡ totalℤ zs
total_natural [] h = refl
total_natural (z ∷ zs) h = ap₂ ◌+ℤ◌ (natural z h.0) (total_natural zs h.1)

pub weigh_natural : (f : Point → ℤ) (zs : List ℤ) (P : Shape) → NonNegative zs → weigh f (map nat_abs zs) P ≡ weighℤ f zs P
weigh_natural f [] P h = refl
weigh_natural f (z ∷ zs) [] h = refl
weigh_natural f (z ∷ zs) (a ∷ P) h = ap₂ (λ (y w : ℤ). y *ℤ f a +ℤ w) (natural z h.0) (weigh_natural f zs P h.1)

-- Whole weights, none negative, with one positive sum, that agree in every coordinate: a common point.
pub meet : {n : ℕ} {P Q : Shape} (us ws : List ℤ) → length us ≡ length P → length ws ≡ length Q →
    NonNegative us → NonNegative ws → totalℤ us ≡ totalℤ ws → pos 0 <ℤ totalℤ us →
    ((i : ℕ) → i < n → weighℤ (coord i) us P ≡ weighℤ (coord i) ws Q) → Share n P Q
meet {P} {Q} us ws lu lw hu hw same some agree =
    share_of_weights (record {
      us = map nat_abs us;
      ws = map nat_abs ws;
      us_each = length-map us nat_abs ∙ lu;
      ws_each = length-map ws nat_abs ∙ lw;
      same = ap nat_abs (total_natural us hu ∙ same ∙ sym (total_natural ws hw));
      some = ltb→lt 0 (total (map nat_abs us)) (subst (λ (z : ℤ). pos 0 <ℤ z) (sym (total_natural us hu)) some).lt;
      agree = λ i l. weigh_natural (coord i) us P hu ∙ agree i l ∙ sym (weigh_natural (coord i) ws Q hw);
    })
