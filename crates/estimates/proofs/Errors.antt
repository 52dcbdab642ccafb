-- How errors add up: twice the error of a rounded product, sum or difference, from that of its parts. Each law names the j for which its result is up to
-- 2^(53 + j) in size; the table in specs/Doubles.antt has one line for each use of them in Sides.antt. Assumes nothing.
use mathlib.Core.Path.{◌≡◌, refl, sym, ap, ◌∙◌, subst}
use Prim.Native.Nat.{ℕ, ◌+◌, ◌*◌, ◌^◌, ◌≤◌}
use native.Mathlib.Nat.{le_trans, le_of_eq, add-le-add, mul-le-mul, mul_right_comm}
use native.Mathlib.Omega.{arith}
use lib.IntN.{ℤ, pos, negsuc, nat_abs, ◌+ℤ◌, ◌-ℤ◌, ◌*ℤ◌, +ℤ_invr}
use lib.Ieee.{Float, binary64, add, sub, mul}
use Rattle.algebra.proofs.Expression.{◌⊞◌, ◌⊟◌, ◌⊠◌}
use Rattle.algebra.proofs.Solver.{◌≗◌, solve}
use Rattle.algebra.proofs.Order.{eq_of_sub}
use Rattle.algebra.proofs.Bound.{abs_add, abs_sub, abs_mul}
use Rattle.estimates.specs.Doubles.{Whole}
use Rattle.estimates.proofs.Wholes.{Estimates, rounds_estimates}
use Rattle.estimates.proofs.Products.{product_whole}
use Rattle.estimates.proofs.Sums.{sum_whole, difference_whole}

-- The double x is the whole number z, of no more than `most` in size.
pub record Exactly (x : Float) (z : ℤ) (most : ℕ) : Type 0 where
  pub whole : Whole x z
  pub size : nat_abs z ≤ most

-- What is exact is an estimate with no error.
exact_estimates : {x : Float} {z : ℤ} {most : ℕ} → Exactly x z most → Estimates x z 0 most
exact_estimates {x} {z} p = record { number = z; whole = p.whole; off = le_of_eq (ap (λ (y : ℤ). nat_abs y * 2) (+ℤ_invr z)); size = p.size }

-- ---- a sum
-- Its error is what the last rounding adds to those of the parts.
sum_error : (w g h u v : ℤ) → w -ℤ (u +ℤ v) ≡ (w -ℤ (g +ℤ h)) +ℤ ((g -ℤ u) +ℤ (h -ℤ v))
sum_error = solve 5 (λ w g h u v. w ⊟ (u ⊞ v) ≗ (w ⊟ (g ⊞ h)) ⊞ ((g ⊟ u) ⊞ (h ⊟ v))) (tt, refl)

pub sum_estimates : {x y : Float} {u v : ℤ} {e f m n : ℕ} (j : ℕ) → Estimates x u e m → Estimates y v f n → m + n ≤ 2 ^ (53 + j) → 53 + j ≤ 1023 →
    Estimates (add binary64 x y) (u +ℤ v) (e + f + 2 ^ j) (2 ^ (53 + j))
sum_estimates {u} {v} j p q most finite =
    let g = p.number in
    let h = q.number in
    let r = rounds_estimates j (sum_whole binary64 p.whole q.whole) (le_trans (abs_add g h) (le_trans (add-le-add p.size q.size) most)) finite in
    let w = r.number in
    record {
      number = w;
      whole = r.whole;
      off = omega (arith, ap nat_abs (sum_error w g h u v), abs_add (w -ℤ (g +ℤ h)) ((g -ℤ u) +ℤ (h -ℤ v)), abs_add (g -ℤ u) (h -ℤ v), r.off, p.off, q.off);
      size = r.size;
    }

-- ---- a difference
-- Its error, likewise.
difference_error : (w g h u v : ℤ) → w -ℤ (u -ℤ v) ≡ (w -ℤ (g -ℤ h)) +ℤ ((g -ℤ u) -ℤ (h -ℤ v))
difference_error = solve 5 (λ w g h u v. w ⊟ (u ⊟ v) ≗ (w ⊟ (g ⊟ h)) ⊞ ((g ⊟ u) ⊟ (h ⊟ v))) (tt, refl)

pub difference_estimates : {x y : Float} {u v : ℤ} {e f m n : ℕ} (j : ℕ) → Estimates x u e m → Estimates y v f n → m + n ≤ 2 ^ (53 + j) → 53 + j ≤ 1023 →
    Estimates (sub binary64 x y) (u -ℤ v) (e + f + 2 ^ j) (2 ^ (53 + j))
difference_estimates {u} {v} j p q most finite =
    let g = p.number in
    let h = q.number in
    let r = rounds_estimates j (difference_whole binary64 p.whole q.whole) (le_trans (abs_sub g h) (le_trans (add-le-add p.size q.size) most)) finite in
    let w = r.number in
    record {
      number = w;
      whole = r.whole;
      off = omega (arith, ap nat_abs (difference_error w g h u v), abs_add (w -ℤ (g -ℤ h)) ((g -ℤ u) -ℤ (h -ℤ v)), abs_sub (g -ℤ u) (h -ℤ v), r.off, p.off, q.off);
      size = r.size;
    }

-- Up to 2^53 a difference of exact numbers is exact: off by less than one.
pub difference_exact : {x y : Float} {u v : ℤ} {m n : ℕ} → Exactly x u m → Exactly y v n → m + n ≤ 2 ^ 53 → Exactly (sub binary64 x y) (u -ℤ v) (m + n)
difference_exact {x} {y} {u} {v} {m} {n} p q most =
    let size : nat_abs (u -ℤ v) ≤ m + n = le_trans (abs_sub u v) (add-le-add p.size q.size) in
    let r = rounds_estimates 0 (difference_whole binary64 p.whole q.whole) (le_trans size most) (omega arith) in
    record { whole = subst (λ (z : ℤ). Whole (sub binary64 x y) z) (none r.number (u -ℤ v) (omega (arith, r.off))) r.whole; size = size }
  where
    zero_size : (z : ℤ) → nat_abs z ≡ 0 → z ≡ pos 0
    zero_size (pos n) e = ap pos e
    zero_size (negsuc n) e = absurd (omega arith)

    none : (w z : ℤ) → nat_abs (w -ℤ z) ≡ 0 → w ≡ z
    none w z e = sym (eq_of_sub z w (zero_size (w -ℤ z) e))

-- ---- a product with an exact number
-- Its error is what the last rounding adds to the error of the estimate, times that number.
product_error : (w g u v : ℤ) → w -ℤ u *ℤ v ≡ (w -ℤ g *ℤ v) +ℤ (g -ℤ u) *ℤ v
product_error = solve 4 (λ w g u v. w ⊟ u ⊠ v ≗ (w ⊟ g ⊠ v) ⊞ (g ⊟ u) ⊠ v) (tt, refl)

pub product_estimates : {x y : Float} {u v : ℤ} {e m n : ℕ} (j : ℕ) → Estimates x u e m → Exactly y v n → m * n ≤ 2 ^ (53 + j) → 53 + j ≤ 1023 →
    Estimates (mul binary64 x y) (u *ℤ v) (e * n + 2 ^ j) (2 ^ (53 + j))
product_estimates {u} {v} {e} {n} j p q most finite =
    let g = p.number in
    let r = rounds_estimates j (product_whole binary64 p.whole q.whole) (le_trans (le_of_eq (abs_mul g v)) (le_trans (mul-le-mul p.size q.size) most)) finite in
    let w = r.number in
    let twice : nat_abs ((g -ℤ u) *ℤ v) * 2 ≡ nat_abs (g -ℤ u) * 2 * nat_abs v = ap (λ (k : ℕ). k * 2) (abs_mul (g -ℤ u) v) ∙ mul_right_comm (nat_abs (g -ℤ u)) (nat_abs v) 2 in
    let taken_over : nat_abs ((g -ℤ u) *ℤ v) * 2 ≤ e * n = le_trans (le_of_eq twice) (mul-le-mul p.off q.size) in
    record {
      number = w;
      whole = r.whole;
      off = omega (arith, ap nat_abs (product_error w g u v), abs_add (w -ℤ g *ℤ v) ((g -ℤ u) *ℤ v), r.off, taken_over);
      size = r.size;
    }

-- Of two exact numbers.
pub product_of_exact : {x y : Float} {u v : ℤ} {m n : ℕ} (j : ℕ) → Exactly x u m → Exactly y v n → m * n ≤ 2 ^ (53 + j) → 53 + j ≤ 1023 →
    Estimates (mul binary64 x y) (u *ℤ v) (2 ^ j) (2 ^ (53 + j))
product_of_exact j p q most finite =
    let r = product_estimates j (exact_estimates p) q most finite in
    record { number = r.number; whole = r.whole; off = omega (arith, r.off); size = r.size }
