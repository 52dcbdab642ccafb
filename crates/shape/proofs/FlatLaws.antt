-- Flat triangles told by determinants: in the plane exactly those whose turn is zero, in space those whose turns seen in y
-- and z, z and x, x and y are all zero. And the test `is_flat`, which tells the flat shapes. Assumes nothing.
use mathlib.Core.Path.{◌≡◌, refl, sym, ◌∙◌, ap, subst}
use mathlib.Core.Bool.{Bool}
use mathlib.Core.List.{[], ◌∷◌}
use mathlib.Core.Logic.{◌⊎◌, inl, inr, ◌↔◌}
use Prim.Native.Nat.{ℕ, zero, suc, ◌<◌}
use native.Mathlib.Omega.{arith}
use lib.IntN.{ℤ, pos, negsuc, neg_ℤ, ◌-ℤ◌, ◌*ℤ◌, +ℤ_invr}
use Rattle.algebra.proofs.Order.{eq_of_sub}
use Rattle.algebra.proofs.Expression.{◌⊟◌, neg}
use Rattle.algebra.proofs.Solver.{◌≗◌, solve}
use Rattle.shape.specs.Points.{Point, Shape, coord}
use Rattle.shape.specs.Signs.{turn, turn_in}
use Rattle.shape.specs.Flat.{OnLine, Flat, is_zero, all_below, is_flat}
use Rattle.shape.specs.Verdicts.{Says}
use Rattle.shape.proofs.VerdictLaws.{says_yes, says_no, says_same, says_fixed}
use Rattle.shape.proofs.Steps.{below_step}

-- A coordinate against itself shows no turn; two coordinates that trade places turn the sign.
pub turn_in_same : (i : ℕ) (a b c : Point) → turn_in i i a b c ≡ pos 0
turn_in_same i a b c = +ℤ_invr ((coord i a -ℤ coord i c) *ℤ (coord i b -ℤ coord i c))

pub turn_in_trade : (i j : ℕ) (a b c : Point) → turn_in j i a b c ≡ neg_ℤ (turn_in i j a b c)
turn_in_trade i j a b c =
    solve 2 (λ p q. q ⊟ p ≗ neg (p ⊟ q)) (tt, refl)
    ((coord i a -ℤ coord i c) *ℤ (coord j b -ℤ coord j c))
    ((coord j a -ℤ coord j c) *ℤ (coord i b -ℤ coord i c))

-- Two numbers compare.
pub compared : (i j : ℕ) → (i < j) ⊎ ((i ≡ j) ⊎ (j < i))
compared zero zero = inr (inl refl)
compared zero (suc j) = inl (omega arith)
compared (suc i) zero = inr (inr (omega arith))
compared (suc i) (suc j) = one_more (compared i j)
  where
    one_more : (i < j) ⊎ ((i ≡ j) ⊎ (j < i)) → (suc i < suc j) ⊎ ((suc i ≡ suc j) ⊎ (suc j < suc i))
    one_more (inl h) = inl (omega arith)
    one_more (inr (inl e)) = inr (inl (ap suc e))
    one_more (inr (inr h)) = inr (inr (omega arith))

-- Points lie on one line if they show no turn in coordinates i < j.
pub on_line : {n : ℕ} (a b c : Point) → ((i j : ℕ) → i < j → j < n → turn_in i j a b c ≡ pos 0) → OnLine n a b c
on_line a b c h i j li lj = by_order (compared i j)
  where
    by_order : (i < j) ⊎ ((i ≡ j) ⊎ (j < i)) → turn_in i j a b c ≡ pos 0
    by_order (inl l) = h i j l (omega arith)
    by_order (inr (inl e)) = subst (λ (k : ℕ). turn_in i k a b c ≡ pos 0) e (turn_in_same i a b c)
    by_order (inr (inr l)) = turn_in_trade j i a b c ∙ ap neg_ℤ (h j i l (omega arith))

-- A triangle in the plane is flat exactly where its turn is zero.
pub flat_in_plane : (a b c : Point) → Flat 2 (a ∷ b ∷ c ∷ []) ↔ (turn a b c ≡ pos 0)
flat_in_plane a b c = (λ h. h 0 1 (omega arith) (omega arith), λ e. on_line a b c (each e))
  where
    each : turn a b c ≡ pos 0 → (i j : ℕ) → i < j → j < 2 → turn_in i j a b c ≡ pos 0
    each e i zero l m = absurd (omega arith)
    each e zero (suc zero) l m = e
    each e (suc i) (suc zero) l m = absurd (omega arith)
    each e i (suc (suc j)) l m = absurd (omega arith)

-- A triangle in space is flat exactly where it shows no turn in y and z, in z and x, in x and y.
pub flat_in_space : (a b c : Point) →
    Flat 3 (a ∷ b ∷ c ∷ []) ↔ ((turn_in 1 2 a b c ≡ pos 0) × (turn_in 2 0 a b c ≡ pos 0) × (turn_in 0 1 a b c ≡ pos 0))
flat_in_space a b c =
    (λ h. (h 1 2 (omega arith) (omega arith), h 2 0 (omega arith) (omega arith), h 0 1 (omega arith) (omega arith)), λ e. on_line a b c (each e))
  where
    each : (turn_in 1 2 a b c ≡ pos 0) × (turn_in 2 0 a b c ≡ pos 0) × (turn_in 0 1 a b c ≡ pos 0) →
        (i j : ℕ) → i < j → j < 3 → turn_in i j a b c ≡ pos 0
    each e i zero l m = absurd (omega arith)
    each e zero (suc zero) l m = e.2
    each e (suc i) (suc zero) l m = absurd (omega arith)
    each e zero (suc (suc zero)) l m = turn_in_trade 2 0 a b c ∙ ap neg_ℤ e.1
    each e (suc zero) (suc (suc zero)) l m = e.0
    each e (suc (suc i)) (suc (suc zero)) l m = absurd (omega arith)
    each e i (suc (suc (suc j))) l m = absurd (omega arith)

-- ---- the test that computes
pub zero_says : (z : ℤ) → Says (is_zero z) (z ≡ pos 0)
zero_says (pos zero) = says_yes refl
zero_says (pos (suc n)) = says_no (λ e. let y : ◌≡◌ {A = ℕ} (suc n) 0 = cc in omega arith)
zero_says (negsuc n) = says_no (λ e. let y : ◌≡◌ {A = ℕ} 0 1 = cc in omega arith)

-- A test of each i below n that says whether F i holds: together they say whether it holds of all.
pub below_says : (n : ℕ) (F : ℕ → Type 0) (test : ℕ → Bool) → ((i : ℕ) → Says (test i) (F i)) → Says (all_below n test) ((i : ℕ) → i < n → F i)
below_says zero F test says = says_yes (λ i l. absurd (omega arith))
below_says (suc n) F test says = below_step n F test says (below_says n F test says) last_or_before
  where
    last_or_before : F n → ((i : ℕ) → i < n → F i) → (i : ℕ) → i < suc n → F i
    last_or_before last before i l = by_order (compared i n)
      where
        by_order : (i < n) ⊎ ((i ≡ n) ⊎ (n < i)) → F i
        by_order (inl h) = before i h
        by_order (inr (inl e)) = subst F (sym e) last
        by_order (inr (inr h)) = absurd (omega arith)

-- The test tells the flat shapes.
pub is_flat_law : (n : ℕ) (P : Shape) → Says (is_flat n P) (Flat n P)
is_flat_law n [] = says_no (λ h. h)
is_flat_law n (a ∷ []) = says_no (λ h. h)
is_flat_law n (a ∷ b ∷ []) =
    below_says n (λ i. coord i a ≡ coord i b) (λ i. is_zero (coord i b -ℤ coord i a))
    (λ i. says_same (eq_of_sub (coord i a) (coord i b), λ e. ap (λ (z : ℤ). z -ℤ coord i a) (sym e) ∙ +ℤ_invr (coord i a)) (zero_says (coord i b -ℤ coord i a)))
is_flat_law n (a ∷ b ∷ c ∷ []) =
    says_same ((λ h i j l m. h i l j m), (λ h i l j m. h i j l m))
    (below_says n (λ i. (j : ℕ) → j < n → turn_in i j a b c ≡ pos 0) (λ i. all_below n (λ j. is_zero (turn_in i j a b c)))
    (λ i. below_says n (λ j. turn_in i j a b c ≡ pos 0) (λ j. is_zero (turn_in i j a b c)) (λ j. zero_says (turn_in i j a b c))))
is_flat_law n (a ∷ b ∷ c ∷ d ∷ more) = says_no (λ h. h)

-- In the plane it is one sign.
pub is_flat_in_plane : (a b c : Point) → is_flat 2 (a ∷ b ∷ c ∷ []) ≡ is_zero (turn a b c)
is_flat_in_plane a b c =
    says_fixed (is_flat_law 2 (a ∷ b ∷ c ∷ [])) (says_same ((flat_in_plane a b c).1, (flat_in_plane a b c).0) (zero_says (turn a b c)))
