-- A sum of two doubles that are whole numbers is the sum of these, rounded; and so a difference. The kit adds two values over one denominator c: with one sign
-- their sizes are added, with two the smaller is taken from the larger. Assumes nothing.
use mathlib.Core.Path.{◌≡◌, refl, sym, ap, ap₂, ◌∙◌, subst}
use mathlib.Core.Bool.{Bool, true, false, not, ◌&&◌, cond}
use Prim.Native.Nat.{ℕ, zero, suc, ◌+◌, ◌-◌, ◌*◌, ◌≤◌, ◌<◌}
use native.Mathlib.Nat.{mul_comm, mul-one, mul-pos, add-mul, mul-sub}
use native.Mathlib.Omega.{arith}
use borrow.Author.Tests.{le-ltb}
use lib.Dec.{T, ltb, ltb→lt, nltb→le}
use lib.IntN.{ℤ, pos, negsuc, neg_ℤ, ◌+ℤ◌, ◌-ℤ◌, neg_ℤ-+ℤ, neg_ℤ-neg_ℤ, +ℤ_comm}
use lib.Ieee.{Float, nan, inf, fin, Format, up, down, round, sum, add, sub}
use lib.Ieee.Exact.{HasValue}
use lib.Ieee.Fits.{down_pos}
use lib.Ieee.Scale.{round_same}
use Rattle.estimates.specs.Doubles.{signed, Whole}
use Rattle.estimates.proofs.Wholes.{Rounds, over_first, over_second, common_factor, neg_whole}

-- ---- the smaller taken from the larger
from_larger : (m n : ℕ) → n ≤ m → pos (m - n) ≡ pos m -ℤ pos n
from_larger m zero h = ap pos (none m)
  where
    none : (m : ℕ) → m - 0 ≡ m + 0
    none m = omega arith
from_larger m (suc n) h = sym (ap (λ (less : Bool). cond less (negsuc (suc n - suc m)) (pos (m - suc n))) (le-ltb m (suc n) h))

-- The same the other way round.
opposite : (m n : ℕ) → neg_ℤ (pos m -ℤ pos n) ≡ neg_ℤ (pos m) +ℤ pos n
opposite m n = neg_ℤ-+ℤ (pos m) (neg_ℤ (pos n)) ∙ ap (λ (z : ℤ). neg_ℤ (pos m) +ℤ z) (neg_ℤ-neg_ℤ (pos n))

below_larger : (m n : ℕ) → n ≤ m → neg_ℤ (pos (m - n)) ≡ neg_ℤ (pos m) +ℤ pos n
below_larger m n h = ap neg_ℤ (from_larger m n h) ∙ opposite m n

-- ---- two signs
-- The first is the larger, or as large. A sum of zero is not negative: its sign is that of the first where the second is smaller.
larger_first : (s : Bool) (m n : ℕ) → n ≤ m → signed (s && ltb n m) (m - n) ≡ signed s m +ℤ signed (not s) n
larger_first false m n h = from_larger m n h
larger_first true m n h = by_test (ltb n m) (nltb→le n m) ∙ below_larger m n h
  where
    none : (m n : ℕ) → m ≤ n → m - n ≡ 0
    none m n l = omega arith

    by_test : (b : Bool) → (T (not b) → m ≤ n) → signed b (m - n) ≡ neg_ℤ (pos (m - n))
    by_test true l = refl
    by_test false l = ap pos (none m n (l tt)) ∙ sym (ap (λ (z : ℕ). neg_ℤ (pos z)) (none m n (l tt)))

-- The second is the larger.
larger_second : (s : Bool) (m n : ℕ) → m < n → signed (not s) (n - m) ≡ signed s m +ℤ signed (not s) n
larger_second false m n h = below_larger n m (omega arith) ∙ +ℤ_comm (neg_ℤ (pos n)) (pos m)
larger_second true m n h = from_larger n m (omega arith) ∙ +ℤ_comm (pos n) (neg_ℤ (pos m))

-- ---- over one denominator
module _ (f : Format) (c : ℕ) (positive : 0 < c) where
  cancelled : (s : Bool) (a n : ℕ) → a ≡ n * c → round f s a c ≡ round f s n 1
  cancelled s a n e = round_same f s a c n 1 positive (omega arith) (mul-one a ∙ e)

  taken_out : (m n : ℕ) → m * c - n * c ≡ (m - n) * c
  taken_out m n = ap₂ ◌-◌ (mul_comm m c) (mul_comm n c) ∙ sym (mul-sub c m n) ∙ mul_comm c (m - n)

  -- One sign.
  one_sign : (s : Bool) (m n : ℕ) → signed s (m + n) ≡ signed s m +ℤ signed s n → Rounds f (round f s (m * c + n * c) c) (signed s m +ℤ signed s n)
  one_sign s m n e = record { sign = s; size = m + n; rounds = cancelled s (m * c + n * c) (m + n) (sym (add-mul m n c)); is = e }

  -- Two signs, by which is larger.
  by_larger : (s : Bool) (m n : ℕ) (less : Bool) → (T less → m < n) → (T (not less) → n ≤ m) →
      Rounds f (cond less (round f (not s) (n * c - m * c) c) (round f (s && ltb (n * c) (m * c)) (m * c - n * c) c)) (signed s m +ℤ signed (not s) n)
  by_larger s m n true below above = record {
    sign = not s;
    size = n - m;
    rounds = cancelled (not s) (n * c - m * c) (n - m) (taken_out n m);
    is = larger_second s m n (below tt);
  }
  by_larger s m n false below above = record {
    sign = s && ltb n m;
    size = m - n;
    rounds =
        ap (λ (b : Bool). round f (s && b) (m * c - n * c) c) (common_factor n m c positive)
        ∙ cancelled (s && ltb n m) (m * c - n * c) (m - n) (taken_out m n);
    is = larger_first s m n (above tt);
  }

  two_signs : (s : Bool) (m n : ℕ) →
      Rounds f (cond (ltb (m * c) (n * c)) (round f (not s) (n * c - m * c) c) (round f (s && ltb (n * c) (m * c)) (m * c - n * c) c))
      (signed s m +ℤ signed (not s) n)
  two_signs s m n =
      by_larger s m n (ltb (m * c) (n * c))
      (λ l. ltb→lt m n (subst T (common_factor m n c positive) l))
      (λ l. nltb→le m n (subst (λ (b : Bool). T (not b)) (common_factor m n c positive) l))

  sum_rounds : (s t : Bool) (m n : ℕ) → Rounds f (sum f s (m * c) t (n * c) c) (signed s m +ℤ signed t n)
  unfolding sum
  sum_rounds false false m n = one_sign false m n refl
  sum_rounds true true m n = one_sign true m n (neg_ℤ-+ℤ (pos m) (pos n))
  sum_rounds false true m n = two_signs false m n
  sum_rounds true false m n = two_signs true m n

-- ---- of two doubles
added : (f : Format) (x y : Float) (s t : Bool) (m n : ℕ) → HasValue x s m 1 → HasValue y t n 1 → Rounds f (add f x y) (signed s m +ℤ signed t n)
unfolding add
added f nan y s t m n v w = absurd v
added f (inf s') y s t m n v w = absurd v
added f (fin s' a d) nan s t m n v w = absurd w
added f (fin s' a d) (inf t') s t m n v w = absurd w
added f (fin s' a d) (fin t' b e) s t m n v w =
    let c = down d * down e in
    let first : a * up d * down e ≡ m * c = over_first m (a * up d) (down d) (down e) v.1 in
    let second : b * up e * down d ≡ n * c = over_second n (b * up e) (down e) (down d) w.1 in
    let r = sum_rounds f c (mul-pos (down_pos d) (down_pos e)) s t m n in
    record {
      sign = r.sign;
      size = r.size;
      rounds = (λ i. sum f (v.0 i) (first i) (w.0 i) (second i) c) ∙ r.rounds;
      is = r.is;
    }

pub sum_whole : (f : Format) {x y : Float} {u v : ℤ} → Whole x u → Whole y v → Rounds f (add f x y) (u +ℤ v)
sum_whole f {x} {y} p q =
    let r = added f x y p.negative q.negative p.size q.size p.has q.has in
    record { sign = r.sign; size = r.size; rounds = r.rounds; is = r.is ∙ ap₂ ◌+ℤ◌ p.is q.is }

pub difference_whole : (f : Format) {x y : Float} {u v : ℤ} → Whole x u → Whole y v → Rounds f (sub f x y) (u -ℤ v)
unfolding sub
difference_whole f p q = sum_whole f p (neg_whole q)
