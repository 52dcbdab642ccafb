-- What a number tells that is near to the exact side, by the limit: the sign of the side, or that it is no larger than twice the error. Assumes nothing.
use mathlib.Core.Path.{◌≡◌, refl, sym, ◌∙◌, subst}
use mathlib.Core.Bool.{true, false}
use mathlib.Core.List.{[], ◌∷◌}
use Prim.Native.Nat.{zero, suc, ◌+◌, ◌≤◌}
use native.Mathlib.Omega.{arith}
use lib.Dec.{T, ltb→lt}
use lib.IntN.{ℤ, pos, negsuc, neg_ℤ, nat_abs, ◌+ℤ◌, ◌-ℤ◌}
use lib.Signed.{◌≤ℤ◌, ◌<ℤ◌}
use lib.Ieee.{Float}
use Rattle.algebra.proofs.Expression.{var, lit, neg, ◌⊞◌, ◌⊟◌}
use Rattle.algebra.proofs.Certificate.{◌≦◌, ◌≺◌, hyp, num, ◌⊕◌, prove≤, prove<}
use Rattle.algebra.proofs.Order.{lt_false}
use Rattle.algebra.proofs.Bound.{at_most, at_least, within_both}
use Rattle.shape.specs.Signs.{sign}
use Rattle.estimates.specs.Doubles.{Near, error_limit, far_above, far_below}
use Rattle.estimates.proofs.Wholes.{neg_whole}
use Rattle.estimates.proofs.Comparing.{less_whole}
use Rattle.estimates.proofs.Limit.{limit_whole}

-- ---- a number farther from zero than from z
above_zero : (g z n : ℤ) → n <ℤ g → (g -ℤ z) ≤ℤ n → pos 0 <ℤ z
above_zero g z n = prove< (g ∷ z ∷ n ∷ []) ((var 2 ≺ var 0) ∷ (var 0 ⊟ var 1 ≦ var 2) ∷ []) (lit (pos 0)) (var 1) (num 1) (hyp 0 ⊕ hyp 1) tt tt refl

below_zero : (g z n : ℤ) → g <ℤ neg_ℤ n → neg_ℤ n ≤ℤ (g -ℤ z) → z <ℤ pos 0
below_zero g z n = prove< (g ∷ z ∷ n ∷ []) ((var 0 ≺ neg (var 2)) ∷ (neg (var 2) ≦ var 0 ⊟ var 1) ∷ []) (var 1) (lit (pos 0)) (num 1) (hyp 0 ⊕ hyp 1) tt tt refl

sign_above : (z : ℤ) → pos 0 <ℤ z → sign z ≡ pos 1
sign_above (pos zero) h = absurd h.lt
sign_above (pos (suc n)) h = refl
sign_above (negsuc n) h = absurd h.lt

sign_below : (z : ℤ) → z <ℤ pos 0 → sign z ≡ negsuc 0
sign_below (pos zero) h = absurd h.lt
sign_below (pos (suc n)) h = absurd (omega (arith, ltb→lt (suc n) 0 h.lt))
sign_below (negsuc n) h = refl

-- ---- the sign of what is estimated
pub near_above : {e : Float} {z : ℤ} → Near e z error_limit → far_above e ≡ true → sign z ≡ pos 1
near_above {e} {z} n far =
    sign_above z
    (above_zero n.number z (pos error_limit)
    (record { lt = subst T (sym (sym (less_whole limit_whole n.whole) ∙ far)) tt })
    (at_most (n.number -ℤ z) error_limit n.near))

pub near_below : {e : Float} {z : ℤ} → Near e z error_limit → far_below e ≡ true → sign z ≡ negsuc 0
near_below {e} {z} n far =
    sign_below z
    (below_zero n.number z (pos error_limit)
    (record { lt = subst T (sym (sym (less_whole n.whole (neg_whole limit_whole)) ∙ far)) tt })
    (at_least (n.number -ℤ z) error_limit n.near))

-- ---- the size of what is not told
-- A number that is no farther than n from zero, and no farther than n from z.
not_above : (g z n : ℤ) → g ≤ℤ n → neg_ℤ n ≤ℤ (g -ℤ z) → z ≤ℤ (n +ℤ n)
not_above g z n =
    prove≤ (g ∷ z ∷ n ∷ []) ((var 0 ≦ var 2) ∷ (neg (var 2) ≦ var 0 ⊟ var 1) ∷ []) (var 1) (var 2 ⊞ var 2) (num 1) (hyp 0 ⊕ hyp 1) tt tt refl

not_below : (g z n : ℤ) → neg_ℤ n ≤ℤ g → (g -ℤ z) ≤ℤ n → neg_ℤ z ≤ℤ (n +ℤ n)
not_below g z n =
    prove≤ (g ∷ z ∷ n ∷ []) ((neg (var 2) ≦ var 0) ∷ (var 0 ⊟ var 1 ≦ var 2) ∷ []) (neg (var 1)) (var 2 ⊞ var 2) (num 1) (hyp 0 ⊕ hyp 1) tt tt refl

pub near_between : {e : Float} {z : ℤ} → Near e z error_limit → far_above e ≡ false → far_below e ≡ false → nat_abs z ≤ error_limit + error_limit
near_between {e} {z} n above below =
    let near = n.near in
    within_both z (error_limit + error_limit)
    (not_above n.number z (pos error_limit)
    (lt_false (sym (less_whole limit_whole n.whole) ∙ above))
    (at_least (n.number -ℤ z) error_limit near))
    (not_below n.number z (pos error_limit)
    (lt_false (sym (less_whole n.whole (neg_whole limit_whole)) ∙ below))
    (at_most (n.number -ℤ z) error_limit near))
