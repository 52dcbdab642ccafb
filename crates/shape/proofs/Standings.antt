-- How corners stand to a plane, as their sign pattern tells it (specs/SpaceTest.antt): each of the 27 patterns names a standing that
-- fits the three signs. Likewise for the two ends of a segment, and for one sign. Assumes nothing.
use mathlib.Core.Path.{◌≡◌, refl}
use mathlib.Core.Bool.{Bool, true, false, cond}
use mathlib.Core.Logic.{◌⊎◌, inl, inr}
use Prim.Native.Nat.{ℕ, zero, suc, ◌+◌, ◌*◌}
use native.Mathlib.Omega.{arith}
use lib.Dec.{eqb}
use lib.IntN.{ℤ, pos, negsuc, neg_ℤ}
use lib.Signed.{◌≤ℤ◌, ◌<ℤ◌, ≤ℤ_refl}
use Rattle.algebra.proofs.Order.{0<-pos, weak, le_of_lt, ≤ℤ-<ℤ-trans}
use Rattle.shape.specs.Signs.{sign, digit}
use Rattle.shape.specs.Verdicts.{Says}
use Rattle.shape.specs.SpaceTest.{Standing, beside, within, alone, standing, by_ends}
use Rattle.shape.proofs.VerdictLaws.{says_no}

-- The first of three corners is alone on its side of a plane, that side being the non-negative one: the side values of the
-- corners, the first corner's first. In document 01's words: it is above zero and neither of the others is, or it is zero and both
-- others are below.
pub record Alone (x y z : ℤ) : Type 0 where
  pub first : pos 0 ≤ℤ x
  pub second : y ≤ℤ pos 0
  pub third : z ≤ℤ pos 0
  pub over_second : y <ℤ x
  pub over_third : z <ℤ x

-- The last two corners trade places.
pub alone_swapped : {x y z : ℤ} → Alone x y z → Alone x z y
alone_swapped h =
    record { first = h.first; second = h.third; third = h.second; over_second = h.over_third; over_third = h.over_second }

-- What is known of three side values once their signs are turned, if they have to be; and once the corners are turned so many times.
abbrev pub By : Bool → (ℤ → ℤ → ℤ → Type 0) → ℤ → ℤ → ℤ → Type 0
By false K x y z = K x y z
By true K x y z = K (neg_ℤ x) (neg_ℤ y) (neg_ℤ z)

abbrev pub After : ℕ → (ℤ → ℤ → ℤ → Type 0) → ℤ → ℤ → ℤ → Type 0
After zero K x y z = K x y z
After (suc zero) K x y z = K y z x
After (suc (suc turns)) K x y z = K z x y

-- What a standing says of the side values of the corners.
abbrev pub Fits : Standing → ℤ → ℤ → ℤ → Type 0
Fits beside x y z = ((x <ℤ pos 0) × (y <ℤ pos 0) × (z <ℤ pos 0)) ⊎ ((pos 0 <ℤ x) × (pos 0 <ℤ y) × (pos 0 <ℤ z))
Fits within x y z = (x ≡ pos 0) × (y ≡ pos 0) × (z ≡ pos 0)
Fits (alone turns swap) x y z = After turns (By swap Alone) x y z

-- ---- three signs
below : {n : ℕ} → negsuc n <ℤ pos 0
below = record { lt = tt }

above : {n : ℕ} → pos 0 <ℤ pos (suc n)
above {n} = 0<-pos (suc n) (omega arith)

low : {n : ℕ} → negsuc n ≤ℤ pos 0
low = le_of_lt below

on : pos 0 ≤ℤ pos 0
on = ≤ℤ_refl (pos 0)

first_above : {n : ℕ} {y z : ℤ} → y ≤ℤ pos 0 → z ≤ℤ pos 0 → Alone (pos (suc n)) y z
first_above {n} h k =
    record { first = weak above; second = h; third = k; over_second = ≤ℤ-<ℤ-trans h above; over_third = ≤ℤ-<ℤ-trans k above }

first_on : {m n : ℕ} → Alone (pos 0) (negsuc m) (negsuc n)
first_on = record { first = on; second = low; third = low; over_second = below; over_third = below }

-- Each pattern names a standing that fits: the corners below the plane, on it or above it.
pub fits : (x y z : ℤ) → Fits (standing (9 * digit (sign x) + 3 * digit (sign y) + digit (sign z))) x y z
fits (negsuc x) (negsuc y) (negsuc z) = inl (below, below, below)
fits (negsuc x) (negsuc y) (pos zero) = first_on
fits (negsuc x) (negsuc y) (pos (suc z)) = first_above low low
fits (negsuc x) (pos zero) (negsuc z) = first_on
fits (negsuc x) (pos zero) (pos zero) = first_above on on
fits (negsuc x) (pos zero) (pos (suc z)) = first_above on low
fits (negsuc x) (pos (suc y)) (negsuc z) = first_above low low
fits (negsuc x) (pos (suc y)) (pos zero) = first_above low on
fits (negsuc x) (pos (suc y)) (pos (suc z)) = first_above low low
fits (pos zero) (negsuc y) (negsuc z) = first_on
fits (pos zero) (negsuc y) (pos zero) = first_above on on
fits (pos zero) (negsuc y) (pos (suc z)) = first_above low on
fits (pos zero) (pos zero) (negsuc z) = first_above on on
fits (pos zero) (pos zero) (pos zero) = (refl, refl, refl)
fits (pos zero) (pos zero) (pos (suc z)) = first_above on on
fits (pos zero) (pos (suc y)) (negsuc z) = first_above low on
fits (pos zero) (pos (suc y)) (pos zero) = first_above on on
fits (pos zero) (pos (suc y)) (pos (suc z)) = first_on
fits (pos (suc x)) (negsuc y) (negsuc z) = first_above low low
fits (pos (suc x)) (negsuc y) (pos zero) = first_above low on
fits (pos (suc x)) (negsuc y) (pos (suc z)) = first_above low low
fits (pos (suc x)) (pos zero) (negsuc z) = first_above on low
fits (pos (suc x)) (pos zero) (pos zero) = first_above on on
fits (pos (suc x)) (pos zero) (pos (suc z)) = first_on
fits (pos (suc x)) (pos (suc y)) (negsuc z) = first_above low low
fits (pos (suc x)) (pos (suc y)) (pos zero) = first_on
fits (pos (suc x)) (pos (suc y)) (pos (suc z)) = inr (above, above, above)

-- ---- two signs
-- The verdict by the two ends of a segment, x the side value of p and y that of q: what is right in each case.
pub says_by_ends : {Claim : Type 0} {in_plane from_p from_q : Bool} (x y : ℤ) →
    (x <ℤ pos 0 → y <ℤ pos 0 → Claim → ⊥) → (pos 0 <ℤ x → pos 0 <ℤ y → Claim → ⊥) → (x ≡ pos 0 → y ≡ pos 0 → Says in_plane Claim) →
    (pos 0 ≤ℤ x → y ≤ℤ pos 0 → y <ℤ x → Says from_p Claim) → (pos 0 ≤ℤ y → x ≤ℤ pos 0 → x <ℤ y → Says from_q Claim) →
    Says (by_ends (digit (sign x)) (digit (sign y)) in_plane from_p from_q) Claim
says_by_ends (negsuc x) (negsuc y) lower upper same p q = says_no (lower below below)
says_by_ends (negsuc x) (pos zero) lower upper same p q = q on low below
says_by_ends (negsuc x) (pos (suc y)) lower upper same p q = q (weak above) low (record { lt = tt })
says_by_ends (pos zero) (negsuc y) lower upper same p q = p on low below
says_by_ends (pos zero) (pos zero) lower upper same p q = same refl refl
says_by_ends (pos zero) (pos (suc y)) lower upper same p q = q (weak above) on above
says_by_ends (pos (suc x)) (negsuc y) lower upper same p q = p (weak above) low (record { lt = tt })
says_by_ends (pos (suc x)) (pos zero) lower upper same p q = p (weak above) on above
says_by_ends (pos (suc x)) (pos (suc y)) lower upper same p q = says_no (upper above above)

-- ---- one sign
-- A decision by whether a number is above zero: what is right above zero, and what is right elsewhere.
pub says_by_above : {Claim : Type 0} {v w : Bool} (z : ℤ) → (pos 0 <ℤ z → Says v Claim) → (z ≤ℤ pos 0 → Says w Claim) →
    Says (cond (eqb (digit (sign z)) 2) v w) Claim
says_by_above (negsuc z) upper lower = lower low
says_by_above (pos zero) upper lower = lower on
says_by_above (pos (suc z)) upper lower = upper above
