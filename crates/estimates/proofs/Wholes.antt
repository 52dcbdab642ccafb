-- Doubles that are whole numbers: `Estimates x z twice most` says that x is one, of no more than `most` in size, and that twice its distance from z is at most
-- `twice`. Here stand what rounding a whole number gives, a whole number as a double, and an opposite; Products.antt and Sums.antt build on it. Over any format.
-- Assumes nothing.
use mathlib.Core.Path.{◌≡◌, refl, sym, ap, ◌∙◌, subst}
use mathlib.Core.Bool.{Bool, true, false, not, cond}
use Prim.Native.Nat.{ℕ, zero, suc, ◌+◌, ◌-◌, ◌*◌, ◌^◌, ◌≤◌, ◌<◌}
use native.Mathlib.Nat.{mul_comm, mul_assoc, mul-one, mul-le-mul_right, mul-lt-mul_of_pos_right}
use native.Mathlib.Omega.{arith}
use borrow.Author.Tests.{lt-ltb, le-ltb}
use lib.Dec.{T, ltb, ltb→lt, nltb→le, le→leb}
use lib.IntN.{ℤ, pos, negsuc, neg_ℤ, nat_abs, ◌-ℤ◌, neg_ℤ-+ℤ, neg_ℤ-neg_ℤ}
use lib.Ieee.{Float, nan, inf, fin, Format, binary64, prec, emax, round, of_int, in_float, neg}
use lib.Ieee.Exact.{HasValue}
use lib.Ieee.Back.{round_whole}
use Rattle.algebra.proofs.Bound.{abs_neg}
use Rattle.estimates.specs.Doubles.{double, signed, Whole}
use Rattle.estimates.proofs.Nearest.{HalfApart}
use Rattle.estimates.proofs.Rounding.{rounds_to}

-- ---- numbers with a sign
-- The size, and the opposite.
abs_signed : (s : Bool) (n : ℕ) → nat_abs (signed s n) ≡ n
abs_signed false n = refl
abs_signed true n = abs_neg (pos n)

signed_not : (s : Bool) (n : ℕ) → signed (not s) n ≡ neg_ℤ (signed s n)
signed_not false n = refl
signed_not true n = sym (neg_ℤ-neg_ℤ (pos n))

-- An opposite is as far from an opposite.
opposite_off : (x z : ℤ) → nat_abs (neg_ℤ x -ℤ neg_ℤ z) ≡ nat_abs (x -ℤ z)
opposite_off x z = ap nat_abs (sym (neg_ℤ-+ℤ x (neg_ℤ z))) ∙ abs_neg (x -ℤ z)

-- Half apart as natural numbers, and so with a sign.
off_of : (r n : ℕ) (less : Bool) (b : ℕ) → (T less → r < n) → (T (not less) → n ≤ r) → HalfApart b r n →
    nat_abs (cond less (negsuc (n - suc r)) (pos (r - n))) * 2 ≤ b
off_of r n true b below above h = omega (arith, below tt, h.0, h.1)
off_of r n false b below above h = omega (arith, above tt, h.0, h.1)

natural_off : (r n b : ℕ) → HalfApart b r n → nat_abs (pos r -ℤ pos n) * 2 ≤ b
natural_off r zero b h = omega (arith, h.0)
natural_off r (suc n) b h = off_of r (suc n) (ltb r (suc n)) b (ltb→lt r (suc n)) (nltb→le r (suc n)) h

signed_off : (s : Bool) (r n b : ℕ) → HalfApart b r n → nat_abs (signed s r -ℤ signed s n) * 2 ≤ b
signed_off false r n b h = natural_off r n b h
signed_off true r n b h = omega (arith, opposite_off (pos r) (pos n), natural_off r n b h)

-- ---- estimates
pub record Estimates (x : Float) (z : ℤ) (twice most : ℕ) : Type 0 where
  pub number : ℤ
  pub whole : Whole x number
  pub off : nat_abs (number -ℤ z) * 2 ≤ twice
  pub size : nat_abs number ≤ most

-- The whole number z, rounded to the format f: `sign` and `size` are those that the operation rounds.
pub record Rounds (f : Format) (x : Float) (z : ℤ) : Type 0 where
  pub sign : Bool
  pub size : ℕ
  pub rounds : x ≡ round f sign size 1
  pub is : signed sign size ≡ z

-- Up to 2^(prec + j) it is off by half of 2^j.
pub rounds_estimates : {f : Format} {x : Float} {z : ℤ} (j : ℕ) → Rounds f x z → nat_abs z ≤ 2 ^ (prec f + j) → prec f + j ≤ emax f →
    Estimates x z (2 ^ j) (2 ^ (prec f + j))
rounds_estimates {f} {x} {z} j r most finite =
    let small : r.size ≤ 2 ^ (prec f + j) = subst (λ (n : ℕ). n ≤ 2 ^ (prec f + j)) (sym (ap nat_abs r.is) ∙ abs_signed r.sign r.size) most in
    let t = rounds_to f r.sign r.size j small finite in
    record {
      number = signed r.sign t.number;
      whole = record {
        negative = r.sign;
        size = t.number;
        has = subst (λ (y : Float). HasValue y r.sign t.number 1) (sym r.rounds) t.has;
        is = refl;
      };
      off = subst (λ (y : ℤ). nat_abs (signed r.sign t.number -ℤ y) * 2 ≤ 2 ^ j) r.is (signed_off r.sign t.number r.size (2 ^ j) t.near);
      size = subst (λ (n : ℕ). n ≤ 2 ^ (prec f + j)) (sym (abs_signed r.sign t.number)) t.most;
    }

-- ---- two values over one denominator
-- A size k / d that is the whole number m, over the denominator d · e or e · d.
pub over_first : (m k d e : ℕ) → k * 1 ≡ m * d → k * e ≡ m * (d * e)
over_first m k d e h = ap (λ (x : ℕ). x * e) (sym (mul-one k) ∙ h) ∙ mul_assoc m d e

pub over_second : (m k d e : ℕ) → k * 1 ≡ m * d → k * e ≡ m * (e * d)
over_second m k d e h = over_first m k d e h ∙ ap (λ (x : ℕ). m * x) (mul_comm d e)

-- Comparing needs no denominator.
pub common_factor : (m n c : ℕ) → 0 < c → ltb (m * c) (n * c) ≡ ltb m n
common_factor m n c positive = by_test (ltb m n) (ltb→lt m n) (nltb→le m n)
  where
    by_test : (b : Bool) → (T b → m < n) → (T (not b) → n ≤ m) → ltb (m * c) (n * c) ≡ b
    by_test true below above = lt-ltb (m * c) (n * c) (mul-lt-mul_of_pos_right (below tt) positive)
    by_test false below above = le-ltb (m * c) (n * c) (mul-le-mul_right c (above tt))

-- ---- a whole number as a double, and an opposite
pub double_whole : (z : ℤ) → nat_abs z ≤ 2 ^ 53 → Whole (double z) z
unfolding of_int
double_whole (pos n) h = record { negative = false; size = n; has = round_whole binary64 false n h; is = refl }
double_whole (negsuc n) h = record { negative = true; size = suc n; has = round_whole binary64 true (suc n) h; is = refl }

-- So far a cast from a whole number to a double is defined.
pub cast_defined : (z : ℤ) → nat_abs z ≤ 2 ^ 53 → T (in_float binary64 z)
unfolding in_float
cast_defined (pos n) h = le→leb n (2 ^ 53) h
cast_defined (negsuc n) h = le→leb (suc n) (2 ^ 53) h

neg_has : (x : Float) (s : Bool) (n : ℕ) → HasValue x s n 1 → HasValue (neg x) (not s) n 1
unfolding neg
neg_has nan s n v = v
neg_has (inf t) s n v = v
neg_has (fin t m e) s n v = (ap not v.0, v.1)

pub neg_whole : {x : Float} {z : ℤ} → Whole x z → Whole (neg x) (neg_ℤ z)
neg_whole {x} w = record {
  negative = not w.negative;
  size = w.size;
  has = neg_has x w.negative w.size w.has;
  is = signed_not w.negative w.size ∙ ap neg_ℤ w.is;
}
