-- The worked example that the header of each file of tools quotes, so that what it says is checked. Nothing else cites them. Assumes nothing.
use mathlib.Core.Path.{◌≡◌, refl, ◌∙◌, ap}
use mathlib.Core.List.{[], ◌∷◌}
use lib.IntN.{ℤ, pos, neg_ℤ, neg_ℤ-neg_ℤ, ◌+ℤ◌, ◌-ℤ◌, ◌*ℤ◌}
use lib.Signed.{◌≤ℤ◌, ◌<ℤ◌}
use mir.Syntax.{w64}
use mir.Val.{SFits, to_z, of_z}
use Rattle.algebra.proofs.Ring.{neg-*ℤ, *ℤ-neg}
use Rattle.algebra.proofs.Order.{0≤-mul, sub_nonneg}
use Rattle.algebra.proofs.Expression.{var, lit, ◌⊞◌, ◌⊠◌, value}
use Rattle.algebra.proofs.Polynomial.{term, nil, normal}
use Rattle.algebra.proofs.Solver.{◌≗◌, solve}
use Rattle.algebra.proofs.Certificate.{◌≦◌, ◌≺◌, hyp, prove≤}
use Rattle.algebra.proofs.Bound.{Within, within_sub, within_mul}
use Rattle.algebra.proofs.Machine.{exact, held, difference, product, in_range}

-- ---- Ring: a law or two, chained

pub product_of_negatives : (a b : ℤ) → neg_ℤ a *ℤ neg_ℤ b ≡ a *ℤ b
product_of_negatives a b = neg-*ℤ a (neg_ℤ b) ∙ ap neg_ℤ (*ℤ-neg a b) ∙ neg_ℤ-neg_ℤ (a *ℤ b)

-- ---- Order: signs combined

pub scaled_difference : {k a b : ℤ} → pos 0 ≤ℤ k → a ≤ℤ b → pos 0 ≤ℤ (k *ℤ (b -ℤ a))
scaled_difference h g = 0≤-mul h (sub_nonneg g)

-- ---- Expression: a value computes to the plain expression

pub value_of_expression : (a b : ℤ) → value (a ∷ b ∷ []) (var 0 ⊞ lit (pos 3) ⊠ var 1) ≡ a +ℤ pos 3 *ℤ b
value_of_expression a b = refl

-- ---- Polynomial: the normal form of (a + 2) · b is 2b + ab. The key of b is 16, that of ab is 17

pub normal_form : normal 100 ((var 0 ⊞ lit (pos 2)) ⊠ var 1) ≡ term 16 (pos 2) (term 17 (pos 1) nil)
normal_form = refl

-- ---- Solver: an identity

pub square_of_sum : (a b : ℤ) → (a +ℤ b) *ℤ (a +ℤ b) ≡ a *ℤ a +ℤ pos 2 *ℤ a *ℤ b +ℤ b *ℤ b
square_of_sum = solve 2 (λ a b. (a ⊞ b) ⊠ (a ⊞ b) ≗ a ⊠ a ⊞ lit (pos 2) ⊠ a ⊠ b ⊞ b ⊠ b) (tt, refl)

-- ---- Certificate: an inequality from others

-- with 0 < c and ca ≤ cb also a ≤ b: the goal's gap times c is the gap of the second hypothesis
pub cancel-factor-≤ : (a b c : ℤ) → pos 0 <ℤ c → (c *ℤ a) ≤ℤ (c *ℤ b) → a ≤ℤ b
cancel-factor-≤ a b c = prove≤ (a ∷ b ∷ c ∷ []) ((lit (pos 0) ≺ var 2) ∷ (var 2 ⊠ var 0 ≦ var 2 ⊠ var 1) ∷ [])
    (var 0) (var 1) (hyp 0) (hyp 1) tt tt refl

-- ---- Bound: one law for each operation

pub determinant_within : {a b c d : ℤ} → Within 10 a → Within 10 b → Within 10 c → Within 10 d → Within 200 (a *ℤ d -ℤ b *ℤ c)
determinant_within a b c d = within_sub (within_mul a d) (within_mul b c)

-- ---- Machine: the need of the product (a − b) · c at 64 bits, where a − b was stored

pub product_in_range : {a b c : ℤ} → Within 1000000 a → Within 1000000 b → Within 1000000 c → SFits w64 (to_z w64 (of_z w64 (a -ℤ b)) *ℤ c)
product_in_range a b c = in_range (product (held w64 (difference (exact a) (exact b)) tt) (exact c)) tt
