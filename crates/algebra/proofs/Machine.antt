-- What the machine reads is the whole number that is meant, and that number is small: `Reads v z n` says that the value v, as code
-- computes it, is z, and that |z| ≤ n.
--
-- A signed value that is stored at a width w and read back stands in a goal as `to_z w (of_z w v)`: its bits, read as a number.
-- Build a `Reads` along the code, from the leaves: `parameter` for a parameter, `exact` for a number that is not stored;
-- `sum`, `difference`, `product` for the operations; and `held` where
-- a result was stored. Then `in_range` answers the need that an operation does not overflow, and the field `is` rewrites the
-- machine's value to the whole number. The bounds are numbers that compute: `tt` answers each test that a bound is below
-- 2 ^ hbits w, where hbits w is the number of bits of w without the sign.
--
-- Example (`product_in_range` of Examples.antt): the need of the product (a − b) · c at 64 bits, where a − b was stored.
--
--   product-in-range : {a b c : ℤ} → Within 1000000 a → Within 1000000 b → Within 1000000 c → SFits w64 (to_z w64 (of_z w64 (a -ℤ b)) *ℤ c)
--   product-in-range a b c = in-range (product (held w64 (difference (exact a) (exact b)) tt) (exact c)) tt
use mathlib.Core.Path.{◌≡◌, refl, sym, ap, ◌∙◌, subst}
use Prim.Native.Nat.{ℕ, zero, suc, ◌+◌, ◌*◌, ◌^◌, ◌≤◌, ◌<◌}
use native.Mathlib.Omega.{arith}
use lib.Dec.{T, ltb, ltb→lt}
use lib.IntN.{ℤ, pos, negsuc, nat_abs, ◌+ℤ◌, ◌-ℤ◌, ◌*ℤ◌}
use lib.Signed.{mag}
use mir.Syntax.{Width}
use mir.Val.{SFits, to_z, of_z, hbits}
use mir.ValLaws.{to_z-of_z}
use Rattle.algebra.proofs.Bound.{Within, within_add, within_sub, within_mul}

-- the value v is the whole number z, and |z| ≤ n
pub record Reads (v z : ℤ) (n : ℕ) : Type 0 where
  pub is : v ≡ z
  pub within : Within n z

-- ---- what a reading tells

-- the value itself is small
pub size : {v z : ℤ} {n : ℕ} → Reads v z n → Within n v
size {n} r = subst (λ (x : ℤ). Within n x) (sym r.is) r.within

mag_le_abs : (z : ℤ) → mag z ≤ nat_abs z
mag_le_abs (pos n) = omega arith
mag_le_abs (negsuc n) = omega arith

-- the value fits the width w
pub in_range : {w : Width} {v z : ℤ} {n : ℕ} → Reads v z n → T (ltb n (2 ^ hbits w)) → SFits w v
in_range {w} {v} {n} r t = record { sfits = omega (arith, mag_le_abs v, (size r).abs, ltb→lt n (2 ^ hbits w) t) }

-- ---- values

-- a number that is not stored
pub exact : {z : ℤ} {n : ℕ} → Within n z → Reads z z n
exact h = record { is = refl; within = h }

-- a value that was stored at the width w, and read back
pub held : (w : Width) {v z : ℤ} {n : ℕ} → Reads v z n → T (ltb n (2 ^ hbits w)) → Reads (to_z w (of_z w v)) z n
held w {v} r t = record { is = to_z-of_z w v (in_range r t) ∙ r.is; within = r.within }

-- a parameter, which is known to fit
pub parameter : {w : Width} {z : ℤ} {n : ℕ} → SFits w z → Within n z → Reads (to_z w (of_z w z)) z n
parameter {w} {z} f h = record { is = to_z-of_z w z f; within = h }

-- what a call returned is read back as it was, so it is the z of its contract; that it fits is the field `.ok` of the call
pub returned : (w : Width) {r z : ℤ} → mag r < 2 ^ hbits w → r ≡ z → to_z w (of_z w r) ≡ z
returned w {r} h e = to_z-of_z w r (record { sfits = h }) ∙ e

-- ---- operations

-- on two readings: the bounds add up in a sum and in a difference, and multiply in a product
pub sum : {v z v' z' : ℤ} {m n : ℕ} → Reads v z m → Reads v' z' n → Reads (v +ℤ v') (z +ℤ z') (m + n)
sum r s = record { is = (λ i. r.is i +ℤ s.is i); within = within_add r.within s.within }

pub difference : {v z v' z' : ℤ} {m n : ℕ} → Reads v z m → Reads v' z' n → Reads (v -ℤ v') (z -ℤ z') (m + n)
difference r s = record { is = (λ i. r.is i -ℤ s.is i); within = within_sub r.within s.within }

pub product : {v z v' z' : ℤ} {m n : ℕ} → Reads v z m → Reads v' z' n → Reads (v *ℤ v') (z *ℤ z') (m * n)
product r s = record { is = (λ i. r.is i *ℤ s.is i); within = within_mul r.within s.within }

-- what is left of -1, as code reads a word from the middle on
pub from_minus_one : (n : ℕ) → negsuc 0 -ℤ pos n ≡ negsuc n
from_minus_one zero = refl
from_minus_one (suc k) = ap negsuc {x = suc (0 + k)} {y = suc k} (omega arith)
