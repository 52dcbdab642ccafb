-- Polynomial expressions as data, so that a function can compute with them: `Ex`, what an expression is worth (`value`), and a bound
-- on the exponents in it (`degree`).
--
-- `var i` is the i-th variable, `lit c` the number c, and `◌⊞◌`, `◌⊟◌`, `◌⊠◌`, `neg` are the operations `◌+ℤ◌`, `◌-ℤ◌`, `◌*ℤ◌`, `neg_ℤ`
-- of ℤ, with the same precedence. `value ρ e` is e where var i stands for the i-th number of ρ; it computes to the plain expression.
--
-- Example (`value_of_expression` of Examples.antt):
--
--   value-of-expression : (a b : ℤ) → value (a ∷ b ∷ []) (var 0 ⊞ lit (pos 3) ⊠ var 1) ≡ a +ℤ pos 3 *ℤ b
--   value-of-expression a b = refl
use mathlib.Core.List.{List, [], ◌∷◌}
use Prim.Native.Nat.{ℕ, zero, suc, ◌+◌, max}
use lib.IntN.{ℤ, pos, neg_ℤ, ◌+ℤ◌, ◌-ℤ◌, ◌*ℤ◌}

-- an expression
infixl 6 ◌⊞◌ ◌⊟◌
infixl 7 ◌⊠◌
pub data Ex : Type 0 where
  var : ℕ → Ex
  lit : ℤ → Ex
  ◌⊞◌ : Ex → Ex → Ex
  ◌⊟◌ : Ex → Ex → Ex
  ◌⊠◌ : Ex → Ex → Ex
  neg : Ex → Ex

-- the number of variable i; one where the list is too short
abbrev pub lookup : List ℤ → ℕ → ℤ
lookup [] i = pos 1
lookup (x ∷ ρ) zero = x
lookup (x ∷ ρ) (suc i) = lookup ρ i

-- what an expression is worth
abbrev pub value : List ℤ → Ex → ℤ
value ρ (var i) = lookup ρ i
value ρ (lit c) = c
value ρ (a ⊞ b) = value ρ a +ℤ value ρ b
value ρ (a ⊟ b) = value ρ a -ℤ value ρ b
value ρ (a ⊠ b) = value ρ a *ℤ value ρ b
value ρ (neg a) = neg_ℤ (value ρ a)

-- no variable has a greater exponent in any product of the expression
abbrev pub degree : Ex → ℕ
degree (var i) = 1
degree (lit c) = 0
degree (a ⊞ b) = max (degree a) (degree b)
degree (a ⊟ b) = max (degree a) (degree b)
degree (a ⊠ b) = degree a + degree b
degree (neg a) = degree a
