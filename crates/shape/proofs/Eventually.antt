-- A polynomial in n, given by its coefficients with the highest first, has for every n large enough the sign of the first coefficient that
-- isn't zero. n is large enough beyond the sum of the sizes of all coefficients: after the first one that isn't zero Horner's sum is 1 or more
-- in size, and stays so, since it is multiplied by n and changed by less than n. Assumes nothing.
use mathlib.Core.Path.{◌≡◌, refl, sym, subst}
use mathlib.Core.List.{List, [], ◌∷◌}
use Prim.Native.Nat.{ℕ, zero, suc, ◌+◌, ◌≤◌, ◌<◌}
use native.Mathlib.Omega.{arith}
use lib.Dec.{lt→ltb}
use lib.IntN.{ℤ, pos, negsuc, nat_abs, neg_ℤ, ◌+ℤ◌, ◌-ℤ◌, ◌*ℤ◌}
use lib.Signed.{◌≤ℤ◌, ◌<ℤ◌}
use Rattle.algebra.proofs.Expression.{var, lit, ◌⊞◌, ◌⊟◌, ◌⊠◌, neg}
use Rattle.algebra.proofs.Solver.{ring}
use Rattle.algebra.proofs.Order.{0<-pos, one_le, sub_pos}
use Rattle.algebra.proofs.Certificate.{◌≦◌, ◌≺◌, hyp, num, ◌⊕◌, ◌⊗◌, prove≤, prove<}
use Rattle.shape.specs.InsideTest.{leading}

-- ---- the value at n, by Horner's rule
abbrev pub horner : ℤ → ℤ → List ℤ → ℤ
horner n sum [] = sum
horner n sum (c ∷ cs) = horner n (sum *ℤ n +ℤ c) cs

abbrev pub at : ℕ → List ℤ → ℤ
at n cs = horner (pos n) (pos 0) cs

-- ---- large enough
abbrev pub enough_for : List ℤ → ℕ
enough_for [] = 1
enough_for (c ∷ cs) = nat_abs c + enough_for cs

-- Smaller in size than n.
pub record Under (n : ℕ) (c : ℤ) : Type 0 where
  pub above : neg_ℤ (pos n) <ℤ c
  pub below : c <ℤ pos n

abbrev pub AllUnder : ℕ → List ℤ → Type 0
AllUnder n [] = Unit {0}
AllUnder n (c ∷ cs) = Under n c × AllUnder n cs

under : (n : ℕ) (c : ℤ) → nat_abs c < n → Under n c
under zero c l = absurd (omega arith)
under (suc n) (pos k) l = record { above = record { lt = tt }; below = record { lt = lt→ltb k (suc n) l } }
under (suc n) (negsuc k) l = record { above = record { lt = lt→ltb k n (omega arith) }; below = record { lt = tt } }

pub enough_positive : (cs : List ℤ) → 1 ≤ enough_for cs
enough_positive [] = omega arith
enough_positive (c ∷ cs) = omega (arith, enough_positive cs)

all_under : (n : ℕ) (cs : List ℤ) → enough_for cs ≤ n → AllUnder n cs
all_under n [] l = tt
all_under n (c ∷ cs) l = (under n c (omega (arith, enough_positive cs)), all_under n cs (omega arith))

-- ---- a sum that is 1 or more in size stays so
step_above : (n s c : ℤ) → pos 1 ≤ℤ s → pos 0 <ℤ n → neg_ℤ n <ℤ c → pos 0 <ℤ (s *ℤ n +ℤ c)
step_above n s c =
    prove< (n ∷ s ∷ c ∷ []) ((lit (pos 1) ≦ var 1) ∷ (lit (pos 0) ≺ var 0) ∷ (neg (var 0) ≺ var 2) ∷ [])
    (lit (pos 0)) (var 1 ⊠ var 0 ⊞ var 2) (num 1) (hyp 0 ⊗ hyp 1 ⊕ hyp 2) tt tt refl

step_below : (n s c : ℤ) → s ≤ℤ negsuc 0 → pos 0 <ℤ n → c <ℤ n → (s *ℤ n +ℤ c) <ℤ pos 0
step_below n s c =
    prove< (n ∷ s ∷ c ∷ []) ((var 1 ≦ lit (negsuc 0)) ∷ (lit (pos 0) ≺ var 0) ∷ (var 2 ≺ var 0) ∷ [])
    (var 1 ⊠ var 0 ⊞ var 2) (lit (pos 0)) (num 1) (hyp 0 ⊗ hyp 1 ⊕ hyp 2) tt tt refl

-- below zero is at most minus one
minus_one : (z : ℤ) → z <ℤ pos 0 → z ≤ℤ negsuc 0
minus_one z h = back z (one_le (sub_pos h))
  where
    back : (z : ℤ) → pos 1 ≤ℤ (pos 0 -ℤ z) → z ≤ℤ negsuc 0
    back z = prove≤ (z ∷ []) ((lit (pos 1) ≦ lit (pos 0) ⊟ var 0) ∷ []) (var 0) (lit (negsuc 0)) (num 1) (hyp 0) tt tt refl

module _ (n : ℕ) (some : pos 0 <ℤ pos n) where
  stays_above : (s : ℤ) (cs : List ℤ) → pos 0 <ℤ s → AllUnder n cs → pos 0 <ℤ horner (pos n) s cs
  stays_above s [] h u = h
  stays_above s (c ∷ cs) h u = stays_above (s *ℤ pos n +ℤ c) cs (step_above (pos n) s c (one_le h) some u.0.above) u.1

  stays_below : (s : ℤ) (cs : List ℤ) → s <ℤ pos 0 → AllUnder n cs → horner (pos n) s cs <ℤ pos 0
  stays_below s [] h u = h
  stays_below s (c ∷ cs) h u = stays_below (s *ℤ pos n +ℤ c) cs (step_below (pos n) s c (minus_one s h) some u.0.below) u.1

-- ---- the law
-- A number as its level tells: below zero, zero, or above it.
pub data Level : ℕ → ℤ → Type 0 where
  below : {z : ℤ} → z <ℤ pos 0 → Level 0 z
  nought : {z : ℤ} → z ≡ pos 0 → Level 1 z
  above : {z : ℤ} → pos 0 <ℤ z → Level 2 z

module _ (n : ℕ) where
  first : (c : ℤ) → pos 0 *ℤ pos n +ℤ c ≡ c
  first c = ring (pos n ∷ c ∷ []) (lit (pos 0) ⊠ var 0 ⊞ var 1) (var 1) tt refl

  -- Beyond the sizes of its coefficients a polynomial has the level of the first of them that isn't zero.
  pub leads : (cs : List ℤ) → enough_for cs ≤ n → Level (leading cs) (at n cs)
  leads [] l = nought refl
  leads (pos zero ∷ cs) l = subst (λ (z : ℤ). Level (leading cs) (horner (pos n) z cs)) (sym (first (pos 0))) (leads cs (omega arith))
  leads (pos (suc k) ∷ cs) l =
      let s : pos 0 <ℤ (pos 0 *ℤ pos n +ℤ pos (suc k)) = subst (λ (z : ℤ). pos 0 <ℤ z) (sym (first (pos (suc k)))) (0<-pos (suc k) (omega arith)) in
      above (stays_above n (0<-pos n (omega (arith, enough_positive cs))) (pos 0 *ℤ pos n +ℤ pos (suc k)) cs s (all_under n cs (omega arith)))
  leads (negsuc k ∷ cs) l =
      let s : (pos 0 *ℤ pos n +ℤ negsuc k) <ℤ pos 0 = subst (λ (z : ℤ). z <ℤ pos 0) (sym (first (negsuc k))) (record { lt = tt }) in
      below (stays_below n (0<-pos n (omega (arith, enough_positive cs))) (pos 0 *ℤ pos n +ℤ negsuc k) cs s (all_under n cs (omega arith)))

-- Where the level is the middle one, every coefficient is zero.
abbrev pub AllZero : List ℤ → Type 0
AllZero [] = Unit {0}
AllZero (c ∷ cs) = (c ≡ pos 0) × AllZero cs

pub leading_none : (cs : List ℤ) → leading cs ≡ 1 → AllZero cs
leading_none [] e = tt
leading_none (pos zero ∷ cs) e = (refl, leading_none cs e)
leading_none (pos (suc k) ∷ cs) e = absurd (omega (arith, e))
leading_none (negsuc k ∷ cs) e = absurd (omega (arith, e))
