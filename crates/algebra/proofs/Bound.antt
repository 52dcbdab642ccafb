-- How large a whole number can be: `Within n z` says |z| ≤ n, and the laws give a bound of a sum, a difference or a product from the
-- bounds of its parts. |z| is the kit's `nat_abs`, which `omega` reads, so a bound can be made and used by `omega` too.
--
-- Use one law for each operation of the expression; the bounds are numbers that compute.
--
-- Example (`determinant_within` of Examples.antt), with 200 = 10 · 10 + 10 · 10:
--
--   determinant-within : {a b c d : ℤ} → Within 10 a → Within 10 b → Within 10 c → Within 10 d → Within 200 (a *ℤ d -ℤ b *ℤ c)
--   determinant-within a b c d = within-sub (within-mul a d) (within-mul b c)
use mathlib.Core.Path.{◌≡◌, refl}
use mathlib.Core.Bool.{Bool, true, false, cond}
use Prim.Native.Nat.{ℕ, zero, suc, ◌+◌, ◌*◌, ◌-◌, ◌≤◌}
use native.Mathlib.Omega.{arith}
use native.Mathlib.Nat.{mul-le-mul}
use lib.Dec.{ltb, le→leb, leb→le}
use lib.IntN.{ℤ, pos, negsuc, neg_ℤ, nat_abs, sub_ℕ, ◌+ℤ◌, ◌-ℤ◌, ◌*ℤ◌}
use lib.Signed.{◌≤ℤ◌}

-- ---- the absolute value

-- of an opposite
pub abs_neg : (a : ℤ) → nat_abs (neg_ℤ a) ≡ nat_abs a
abs_neg (pos zero) = refl
abs_neg (pos (suc n)) = refl
abs_neg (negsuc n) = refl

abs_cond : (c : Bool) (x y n : ℕ) → suc x ≤ n → y ≤ n → nat_abs (cond c (negsuc x) (pos y)) ≤ n
abs_cond true x y n h g = h
abs_cond false x y n h g = g

abs_subℕ : (a b : ℕ) → nat_abs (sub_ℕ a (suc b)) ≤ a + suc b
abs_subℕ a b = abs_cond (ltb a (suc b)) (suc b - suc a) (a - suc b) (a + suc b) (omega arith) (omega arith)

-- of a sum
pub abs_add : (a b : ℤ) → nat_abs (a +ℤ b) ≤ nat_abs a + nat_abs b
abs_add (pos a) (pos b) = omega arith
abs_add (pos a) (negsuc b) = abs_subℕ a b
abs_add (negsuc a) (pos b) = omega (arith, abs_subℕ b a)
abs_add (negsuc a) (negsuc b) = omega arith

-- of a difference
pub abs_sub : (a b : ℤ) → nat_abs (a -ℤ b) ≤ nat_abs a + nat_abs b
abs_sub a b = omega (arith, abs_add a (neg_ℤ b), abs_neg b)

-- of a product
pub abs_mul : (a b : ℤ) → nat_abs (a *ℤ b) ≡ nat_abs a * nat_abs b
abs_mul (pos a) (pos b) = refl
abs_mul (pos a) (negsuc b) = abs_neg (pos (a * suc b))
abs_mul (negsuc a) (pos b) = abs_neg (pos (suc a * b))
abs_mul (negsuc a) (negsuc b) = refl

-- ---- bounds

-- |z| ≤ n
pub record Within (n : ℕ) (z : ℤ) : Type 0 where
  pub abs : nat_abs z ≤ n

-- of a sum, a difference and a product
pub within_add : {m n : ℕ} {a b : ℤ} → Within m a → Within n b → Within (m + n) (a +ℤ b)
within_add {a} {b} h g = record { abs = omega (arith, abs_add a b, h.abs, g.abs) }

pub within_sub : {m n : ℕ} {a b : ℤ} → Within m a → Within n b → Within (m + n) (a -ℤ b)
within_sub {a} {b} h g = record { abs = omega (arith, abs_sub a b, h.abs, g.abs) }

pub within_mul : {m n : ℕ} {a b : ℤ} → Within m a → Within n b → Within (m * n) (a *ℤ b)
within_mul {a} {b} h g = record { abs = omega (arith, abs_mul a b, mul-le-mul h.abs g.abs) }

-- ---- a size by two comparisons
pub at_most : (x : ℤ) (n : ℕ) → nat_abs x ≤ n → x ≤ℤ pos n
at_most (pos m) n h = record { le = le→leb m n h }
at_most (negsuc m) n h = record { le = tt }

pub at_least : (x : ℤ) (n : ℕ) → nat_abs x ≤ n → neg_ℤ (pos n) ≤ℤ x
at_least (pos m) zero h = record { le = le→leb 0 m (omega arith) }
at_least (pos m) (suc n) h = record { le = tt }
at_least (negsuc m) zero h = absurd (omega arith)
at_least (negsuc m) (suc n) h = record { le = le→leb m n (omega arith) }

pub within_both : (x : ℤ) (n : ℕ) → x ≤ℤ pos n → neg_ℤ x ≤ℤ pos n → nat_abs x ≤ n
within_both (pos m) n h l = leb→le m n h.le
within_both (negsuc m) n h l = leb→le (suc m) n l.le
