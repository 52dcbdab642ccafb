-- The laws of ℤ as a commutative ring that the kit's `lib.IntN` lacks: how sums and products are put into another order,
-- distributivity on both sides, negated products, associativity of the product, and the factor one.
--
-- Use them for a step of one or two laws, chained by `◌∙◌`. An identity that needs more is a line of `solve` (Solver.antt).
--
-- Example (`product_of_negatives` of Examples.antt):
--
--   product-of-negatives : (a b : ℤ) → neg_ℤ a *ℤ neg_ℤ b ≡ a *ℤ b
--   product-of-negatives a b = neg-*ℤ a (neg_ℤ b) ∙ ap neg_ℤ (*ℤ-neg a b) ∙ negℤ-negℤ (a *ℤ b)
use mathlib.Core.Path.{◌≡◌, sym, ◌∙◌, ap, ap₂}
use Prim.Native.Nat.{zero, suc}
use lib.IntN.{ℤ, pos, negsuc, neg_ℤ, ◌+ℤ◌, ◌-ℤ◌, ◌*ℤ◌, +ℤ-suc_ℤ, +ℤ-pred_ℤ, +ℤ_idl, +ℤ_idr, -ℤ_one, +ℤ_assoc, +ℤ_invl, +ℤ_comm, +ℤ-neg_ℤ_cancel, zero-*ℤ, suc_ℤ-*ℤ, pred_ℤ-*ℤ, *ℤ_comm}

-- a sum in another order
pub +ℤ-left-comm : (a b c : ℤ) → a +ℤ (b +ℤ c) ≡ b +ℤ (a +ℤ c)
+ℤ-left-comm a b c = sym (+ℤ_assoc a b c) ∙ ap (λ x. x +ℤ c) (+ℤ_comm a b) ∙ +ℤ_assoc b a c

pub +ℤ-swap4 : (p q r s : ℤ) → (p +ℤ q) +ℤ (r +ℤ s) ≡ (p +ℤ r) +ℤ (q +ℤ s)
+ℤ-swap4 p q r s = +ℤ_assoc p q (r +ℤ s) ∙ ap (λ x. p +ℤ x) (+ℤ-left-comm q r s) ∙ sym (+ℤ_assoc p r (q +ℤ s))

-- a product with a sum, which is the left factor (`-distr`) or the right one (`-distl`)
pub *ℤ-distr : (a b c : ℤ) → (a +ℤ b) *ℤ c ≡ a *ℤ c +ℤ b *ℤ c
*ℤ-distr a (pos zero) c = ap (λ x. x *ℤ c) (+ℤ_idr a) ∙ sym (ap (λ x. a *ℤ c +ℤ x) (zero-*ℤ c) ∙ +ℤ_idr (a *ℤ c))
*ℤ-distr a (pos (suc n)) c =
    ap (λ x. x *ℤ c) (+ℤ-suc_ℤ a (pos n)) ∙ suc_ℤ-*ℤ (a +ℤ pos n) c ∙ ap (λ x. x +ℤ c) (*ℤ-distr a (pos n) c)
    ∙ +ℤ_assoc (a *ℤ c) (pos n *ℤ c) c ∙ ap (λ x. a *ℤ c +ℤ x) (sym (suc_ℤ-*ℤ (pos n) c))
*ℤ-distr a (negsuc zero) c =
    ap (λ x. x *ℤ c) (-ℤ_one a) ∙ pred_ℤ-*ℤ a c ∙ ap (λ x. a *ℤ c +ℤ x) (sym (pred_ℤ-*ℤ (pos zero) c ∙ ap (λ x. x -ℤ c) (zero-*ℤ c) ∙ +ℤ_idl (neg_ℤ c)))
*ℤ-distr a (negsuc (suc n)) c =
    ap (λ x. x *ℤ c) (+ℤ-pred_ℤ a (negsuc n)) ∙ pred_ℤ-*ℤ (a +ℤ negsuc n) c ∙ ap (λ x. x -ℤ c) (*ℤ-distr a (negsuc n) c)
    ∙ +ℤ_assoc (a *ℤ c) (negsuc n *ℤ c) (neg_ℤ c) ∙ ap (λ x. a *ℤ c +ℤ x) (sym (pred_ℤ-*ℤ (negsuc n) c))

pub *ℤ-distl : (a b c : ℤ) → a *ℤ (b +ℤ c) ≡ a *ℤ b +ℤ a *ℤ c
*ℤ-distl a b c = *ℤ_comm a (b +ℤ c) ∙ *ℤ-distr b c a ∙ ap₂ ◌+ℤ◌ (*ℤ_comm b a) (*ℤ_comm c a)

-- numbers that are equal after the same is added are equal
pub +ℤ-cancelr : (a b c : ℤ) → a +ℤ c ≡ b +ℤ c → a ≡ b
+ℤ-cancelr a b c e = sym (+ℤ-neg_ℤ_cancel a c) ∙ ap (λ x. x -ℤ c) e ∙ +ℤ-neg_ℤ_cancel b c

-- a negated factor negates the product
pub neg-*ℤ : (a b : ℤ) → neg_ℤ a *ℤ b ≡ neg_ℤ (a *ℤ b)
neg-*ℤ a b = +ℤ-cancelr (neg_ℤ a *ℤ b) (neg_ℤ (a *ℤ b)) (a *ℤ b) (sym (*ℤ-distr (neg_ℤ a) a b) ∙ ap (λ x. x *ℤ b) (+ℤ_invl a) ∙ zero-*ℤ b ∙ sym (+ℤ_invl (a *ℤ b)))

pub *ℤ-neg : (a b : ℤ) → a *ℤ neg_ℤ b ≡ neg_ℤ (a *ℤ b)
*ℤ-neg a b = *ℤ_comm a (neg_ℤ b) ∙ neg-*ℤ b a ∙ ap neg_ℤ (*ℤ_comm b a)

-- the product is associative
pub *ℤ-assoc : (a b c : ℤ) → (a *ℤ b) *ℤ c ≡ a *ℤ (b *ℤ c)
*ℤ-assoc (pos zero) b c = ap (λ x. x *ℤ c) (zero-*ℤ b) ∙ zero-*ℤ c ∙ sym (zero-*ℤ (b *ℤ c))
*ℤ-assoc (pos (suc n)) b c =
    ap (λ x. x *ℤ c) (suc_ℤ-*ℤ (pos n) b) ∙ *ℤ-distr (pos n *ℤ b) b c ∙ ap (λ x. x +ℤ b *ℤ c) (*ℤ-assoc (pos n) b c) ∙ sym (suc_ℤ-*ℤ (pos n) (b *ℤ c))
*ℤ-assoc (negsuc zero) b c =
    ap (λ x. x *ℤ c) (pred_ℤ-*ℤ (pos zero) b ∙ ap (λ x. x -ℤ b) (zero-*ℤ b) ∙ +ℤ_idl (neg_ℤ b)) ∙ neg-*ℤ b c
    ∙ sym (pred_ℤ-*ℤ (pos zero) (b *ℤ c) ∙ ap (λ x. x -ℤ b *ℤ c) (zero-*ℤ (b *ℤ c)) ∙ +ℤ_idl (neg_ℤ (b *ℤ c)))
*ℤ-assoc (negsuc (suc n)) b c =
    ap (λ x. x *ℤ c) (pred_ℤ-*ℤ (negsuc n) b) ∙ *ℤ-distr (negsuc n *ℤ b) (neg_ℤ b) c ∙ ap₂ ◌+ℤ◌ (*ℤ-assoc (negsuc n) b c) (neg-*ℤ b c) ∙ sym (pred_ℤ-*ℤ (negsuc n) (b *ℤ c))

-- a product of four in another order
pub *ℤ-swap4 : (p q r s : ℤ) → (p *ℤ q) *ℤ (r *ℤ s) ≡ (p *ℤ r) *ℤ (q *ℤ s)
*ℤ-swap4 p q r s = *ℤ-assoc p q (r *ℤ s) ∙ ap (λ x. p *ℤ x) (sym (*ℤ-assoc q r s) ∙ ap (λ x. x *ℤ s) (*ℤ_comm q r) ∙ *ℤ-assoc r q s) ∙ sym (*ℤ-assoc p r (q *ℤ s))

-- one is neutral, on the left and on the right
pub *ℤ-onel : (a : ℤ) → pos 1 *ℤ a ≡ a
*ℤ-onel a = suc_ℤ-*ℤ (pos zero) a ∙ ap (λ x. x +ℤ a) (zero-*ℤ a) ∙ +ℤ_idl a

pub *ℤ-oner : (a : ℤ) → a *ℤ pos 1 ≡ a
*ℤ-oner a = *ℤ_comm a (pos 1) ∙ *ℤ-onel a
