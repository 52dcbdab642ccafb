-- The level of the first number that isn't zero, told step by step. Assumes nothing.
use mathlib.Core.Path.{◌≡◌, refl, sym, ◌∙◌}
use mathlib.Core.List.{List, [], ◌∷◌}
use Prim.Native.Nat.{ℕ, zero, suc}
use native.Mathlib.Omega.{arith}
use lib.IntN.{ℤ, pos, negsuc}
use Rattle.shape.specs.Signs.{sign, digit}
use Rattle.shape.specs.InsideTest.{leading, first_of}

leading_told : (x : ℤ) (xs : List ℤ) → (digit (sign x) ≡ 1 → ⊥) → digit (sign x) ≡ leading (x ∷ xs)
leading_told (pos zero) xs h = absurd (h refl)
leading_told (pos (suc n)) xs h = refl
leading_told (negsuc n) xs h = refl

leading_passed : (x : ℤ) (xs : List ℤ) → digit (sign x) ≡ 1 → leading xs ≡ leading (x ∷ xs)
leading_passed (pos zero) xs h = refl
leading_passed (pos (suc n)) xs h = absurd (omega (arith, h))
leading_passed (negsuc n) xs h = absurd (omega (arith, h))

leading_two : (x y : ℤ) → first_of (digit (sign x)) (digit (sign y)) ≡ leading (x ∷ y ∷ [])
leading_two (pos zero) (pos zero) = refl
leading_two (pos zero) (pos (suc m)) = refl
leading_two (pos zero) (negsuc m) = refl
leading_two (pos (suc n)) y = refl
leading_two (negsuc n) y = refl

-- ---- three numbers, by the levels that code takes of them: the first one's, or else the first of the two others'
module _ (x y z : ℤ) {r : ℕ} (first : r ≡ digit (sign x)) where
  pub three_told : (r ≡ 1 → ⊥) → r ≡ leading (x ∷ y ∷ z ∷ [])
  three_told h = first ∙ leading_told x (y ∷ z ∷ []) (λ e. h (first ∙ e))

  pub three_passed : r ≡ 1 → {i j s : ℕ} → s ≡ first_of i j → i ≡ digit (sign y) → j ≡ digit (sign z) → s ≡ leading (x ∷ y ∷ z ∷ [])
  three_passed h e f g = e ∙ (λ k. first_of (f k) (g k)) ∙ leading_two y z ∙ leading_passed x (y ∷ z ∷ []) (sym first ∙ h)
