-- Identities of ℤ by computation: an identity between polynomial expressions holds where both sides have the same normal form.
--
-- `solve n (λ x₁ .. xₙ. left ≗ right) (tt, refl)` proves the identity for all n numbers. The sides are written with `◌⊞◌`, `◌⊟◌`, `◌⊠◌`,
-- `neg` and `lit` (Expression.antt); the statement proved has `◌+ℤ◌`, `◌-ℤ◌`, `◌*ℤ◌`, `neg_ℤ` and the numbers in their places.
-- `ring ρ left right tt refl` is the same for expressions in `var 0`, `var 1`, .., where ρ lists what the variables stand for: use it
-- where they stand for longer terms, in parentheses, since `◌∷◌` binds tighter than `◌*ℤ◌`: `(a *ℤ b) ∷ c ∷ []`.
--
-- Example (`square_of_sum` of Examples.antt):
--
--   square-of-sum : (a b : ℤ) → (a +ℤ b) *ℤ (a +ℤ b) ≡ a *ℤ a +ℤ pos 2 *ℤ a *ℤ b +ℤ b *ℤ b
--   square-of-sum = solve 2 (λ a b. (a ⊞ b) ⊠ (a ⊞ b) ≗ a ⊠ a ⊞ lit (pos 2) ⊠ a ⊠ b ⊞ b ⊠ b) (tt, refl)
--
-- The `tt` says that the degree is below 16 (`low_degree`), the `refl` that the difference has the normal form `nil` (`Same`).
-- Where the identity is false, `refl` is refused, and the refusal shows the monomials of left − right that are left over:
-- `term 17 (negsuc 0) nil` is −1 · var 0 · var 1 (Polynomial.antt says how to read it), so the right side has one a · b too many.
use mathlib.Core.Path.{◌≡◌, sym, ◌∙◌, ap}
use mathlib.Core.Bool.{Bool}
use mathlib.Core.List.{List, [], ◌∷◌}
use Prim.Native.Nat.{ℕ, zero, suc}
use lib.Dec.{T, ltb, ltb→lt}
use lib.IntN.{ℤ}
use Rattle.algebra.proofs.Order.{eq_of_sub}
use Rattle.algebra.proofs.Expression.{Ex, var, ◌⊟◌, value, degree}
use Rattle.algebra.proofs.Polynomial.{nil, normal, sum, sum_nil, sound}

-- ---- identities of expressions

-- the two sides have the same normal form
abbrev pub Same : Ex → Ex → Type 0
Same a b = normal 1000000 (a ⊟ b) ≡ nil

-- no exponent passes 15
abbrev pub low_degree : Ex → Ex → Bool
low_degree a b = ltb (degree (a ⊟ b)) 16

-- two expressions with the same normal form are worth the same
pub ring : (ρ : List ℤ) (a b : Ex) → T (low_degree a b) → Same a b → value ρ a ≡ value ρ b
ring ρ a b l t = sym (eq_of_sub (value ρ b) (value ρ a) (sym (sound ρ 1000000 (a ⊟ b) (ltb→lt (degree (a ⊟ b)) 16 l)) ∙ ap (sum ρ) t ∙ sum_nil ρ))

-- ---- the front end: the variables are those of a λ

-- two sides to be proved equal
infix 5 ◌≗◌
pub data Equation : Type 0 where
  ◌≗◌ : Ex → Ex → Equation

-- an equation in n variables
abbrev pub Body : ℕ → Type 0
Body zero = Equation
Body (suc n) = Ex → Body n

-- that equation in var i, var (i + 1), ..
abbrev pub body_at : (n : ℕ) → ℕ → Body n → Equation
body_at zero i f = f
body_at (suc n) i f = body_at n (suc i) (f (var i))

-- one more number at the end
abbrev pub snoc : List ℤ → ℤ → List ℤ
snoc [] x = x ∷ []
snoc (y ∷ ρ) x = y ∷ snoc ρ x

-- the equation, for any n further numbers
abbrev pub Statement : ℕ → List ℤ → Equation → Type 0
Statement zero ρ (a ≗ b) = value ρ a ≡ value ρ b
Statement (suc n) ρ q = (x : ℤ) → Statement n (snoc ρ x) q

-- what the computation has to find: give `(tt, refl)`
abbrev pub Checks : Equation → Type 0
Checks (a ≗ b) = T (low_degree a b) × Same a b

for_all : (n : ℕ) (ρ : List ℤ) (q : Equation) → Checks q → Statement n ρ q
for_all zero ρ (a ≗ b) t = ring ρ a b t.0 t.1
for_all (suc n) ρ q t = λ x. for_all n (snoc ρ x) q t

-- an identity in n variables
pub solve : (n : ℕ) (f : Body n) → Checks (body_at n 0 f) → Statement n [] (body_at n 0 f)
solve n f t = for_all n [] (body_at n 0 f) t
