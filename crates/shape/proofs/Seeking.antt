-- Of the numbers below n, some one has a property, or all have another: where each has the one or the other. Assumes nothing.
use mathlib.Core.Path.{◌≡◌, sym, subst}
use mathlib.Core.Logic.{◌⊎◌, inl, inr, ⊎_elim}
use Prim.Native.Nat.{ℕ, zero, suc, ◌<◌}
use native.Mathlib.Omega.{arith}
use native.Mathlib.Nat.{eq-or-lt_of_le}

pub record Found (n : ℕ) (A : ℕ → Type 0) : Type 0 where
  pub at : ℕ
  pub below : at < n
  pub has : A at

pub seek : (n : ℕ) {A B : ℕ → Type 0} → ((i : ℕ) → i < n → A i ⊎ B i) → Found n A ⊎ ((i : ℕ) → i < n → B i)
seek zero either = inr (λ i l. absurd (omega arith))
seek (suc n) {A} {B} either = with_last (either n (omega arith)) (seek n (λ i l. either i (omega arith)))
  where
    all : B n → ((i : ℕ) → i < n → B i) → (i : ℕ) → i < suc n → B i
    all last before i l = ⊎_elim (λ (e : i ≡ n). subst B (sym e) last) (before i) (eq-or-lt_of_le (omega arith))

    with_last : A n ⊎ B n → Found n A ⊎ ((i : ℕ) → i < n → B i) → Found (suc n) A ⊎ ((i : ℕ) → i < suc n → B i)
    with_last (inl a) before = inl (record { at = n; below = omega arith; has = a })
    with_last (inr b) (inl found) = inl (record { at = found.at; below = omega (arith, found.below); has = found.has })
    with_last (inr b) (inr before) = inr (all b before)
