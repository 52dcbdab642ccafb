-- A product of two doubles that are whole numbers is the product of these, rounded. Assumes nothing.
use mathlib.Core.Path.{◌≡◌, refl, sym, ap, ap₂, ◌∙◌}
use mathlib.Core.Bool.{Bool, true, false}
use Prim.Native.Nat.{ℕ, ◌*◌}
use native.Mathlib.Nat.{mul_assoc, mul_left_comm, mul-one, mul-pos}
use native.Mathlib.Omega.{arith}
use lib.IntN.{ℤ, pos, neg_ℤ, ◌*ℤ◌, neg_ℤ-neg_ℤ}
use lib.Ieee.{Float, nan, inf, fin, Format, up, down, round, mul, unlike}
use lib.Ieee.Exact.{HasValue}
use lib.Ieee.Fits.{down_pos}
use lib.Ieee.Scale.{round_same}
use Rattle.algebra.proofs.Ring.{neg-*ℤ, *ℤ-neg}
use Rattle.estimates.specs.Doubles.{signed, Whole}
use Rattle.estimates.proofs.Wholes.{Rounds}

-- The sizes are multiplied, and the sign is minus where one sign is and the other isn't.
signed_product : (s t : Bool) (m n : ℕ) → signed (unlike s t) (m * n) ≡ signed s m *ℤ signed t n
signed_product false false m n = refl
signed_product false true m n = sym (*ℤ-neg (pos m) (pos n))
signed_product true false m n = sym (neg-*ℤ (pos m) (pos n))
signed_product true true m n = sym (neg-*ℤ (pos m) (neg_ℤ (pos n)) ∙ ap neg_ℤ (*ℤ-neg (pos m) (pos n)) ∙ neg_ℤ-neg_ℤ (pos (m * n)))

product_rounds : (f : Format) (x y : Float) (s t : Bool) (m n : ℕ) → HasValue x s m 1 → HasValue y t n 1 → mul f x y ≡ round f (unlike s t) (m * n) 1
unfolding mul
product_rounds f nan y s t m n v w = absurd v
product_rounds f (inf s') y s t m n v w = absurd v
product_rounds f (fin s' a d) nan s t m n v w = absurd w
product_rounds f (fin s' a d) (inf t') s t m n v w = absurd w
product_rounds f (fin s' a d) (fin t' b e) s t m n v w =
    ap₂ (λ (s t : Bool). round f (unlike s t) (a * up d * (b * up e)) (down d * down e)) v.0 w.0
    ∙ round_same f (unlike s t) (a * up d * (b * up e)) (down d * down e) (m * n) 1 (mul-pos (down_pos d) (down_pos e)) (omega arith)
    (mul-one (a * up d * (b * up e)) ∙ ap₂ ◌*◌ (sym (mul-one (a * up d)) ∙ v.1) (sym (mul-one (b * up e)) ∙ w.1) ∙ simp (mul_assoc, mul_left_comm))

pub product_whole : (f : Format) {x y : Float} {u v : ℤ} → Whole x u → Whole y v → Rounds f (mul f x y) (u *ℤ v)
product_whole f {x} {y} p q = record {
  sign = unlike p.negative q.negative;
  size = p.size * q.size;
  rounds = product_rounds f x y p.negative q.negative p.size q.size p.has q.has;
  is = signed_product p.negative q.negative p.size q.size ∙ ap₂ ◌*ℤ◌ p.is q.is;
}
