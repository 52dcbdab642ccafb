-- Two doubles that are whole numbers compare as these do. Assumes nothing.
use mathlib.Core.Path.{◌≡◌, refl, sym, ap, ap₂, ◌∙◌}
use mathlib.Core.Bool.{Bool, true, false}
use Prim.Native.Nat.compare
use Prim.Native.Nat.{ℕ, zero, suc, ◌+◌, ◌*◌, ◌<◌}
use native.Mathlib.Nat.{zero-add, zero-mul, add-mul, mul-pos}
use native.Mathlib.Omega.{arith}
use borrow.Author.Tests.{lt-ltb, le-ltb}
use lib.Dec.{is_le, ltb}
use lib.IntN.{ℤ}
use lib.Signed.{lt_z}
use lib.Ieee.{Float, nan, inf, fin, up, down, below, lt}
use lib.Ieee.Exact.{HasValue}
use lib.Ieee.Fits.{down_pos}
use Rattle.estimates.specs.Doubles.{signed, Whole}
use Rattle.estimates.proofs.Wholes.{over_first, over_second, common_factor}

-- ---- sizes with their signs
below_signed : (s t : Bool) (m n : ℕ) → below s m t n ≡ lt_z (signed s m) (signed t n)
below_signed false false m n = refl
below_signed false true m zero = sym (le-ltb m 0 (omega arith))
below_signed false true m (suc n) = refl
below_signed true false zero n = ap (ltb 0) (zero-add n)
below_signed true false (suc m) n = lt-ltb 0 (suc m + n) (omega arith)
below_signed true true zero zero = refl
below_signed true true zero (suc n) = le-ltb (suc n) 0 (omega arith)
below_signed true true (suc m) zero = lt-ltb 0 (suc m) (omega arith)
below_signed true true (suc m) (suc n) = ap is_le (compare.suc-suc (suc n) m)

-- A common denominator changes nothing.
below_common : (s t : Bool) (m n c : ℕ) → 0 < c → below s (m * c) t (n * c) ≡ below s m t n
below_common false false m n c positive = common_factor m n c positive
below_common false true m n c positive = refl
below_common true false m n c positive = ap₂ ltb (sym (zero-mul c)) (sym (add-mul m n c)) ∙ common_factor 0 (m + n) c positive
below_common true true m n c positive = common_factor n m c positive

-- ---- of two doubles
less : (x y : Float) (s t : Bool) (m n : ℕ) → HasValue x s m 1 → HasValue y t n 1 → lt x y ≡ lt_z (signed s m) (signed t n)
unfolding lt
less nan y s t m n v w = absurd v
less (inf s') y s t m n v w = absurd v
less (fin s' a d) nan s t m n v w = absurd w
less (fin s' a d) (inf t') s t m n v w = absurd w
less (fin s' a d) (fin t' b e) s t m n v w =
    (λ i. below (v.0 i) (over_first m (a * up d) (down d) (down e) v.1 i) (w.0 i) (over_second n (b * up e) (down e) (down d) w.1 i))
    ∙ below_common s t m n (down d * down e) (mul-pos (down_pos d) (down_pos e))
    ∙ below_signed s t m n

pub less_whole : {x y : Float} {u v : ℤ} → Whole x u → Whole y v → lt x y ≡ lt_z u v
less_whole {x} {y} p q = less x y p.negative q.negative p.size q.size p.has q.has ∙ ap₂ lt_z p.is q.is
