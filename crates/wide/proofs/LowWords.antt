-- Low words: of a product, of a sum, of a number of 64 bits, and the number that a low word tells. Assumes nothing.
use Rattle.std.proofs.Common.{◌≡◌, ℕ, suc, ◌+◌, ◌-◌, ◌*◌, ◌/◌, ◌%◌, ◌^◌, ◌<◌, ◌≤◌, [], ◌∷◌, ℤ, pos, negsuc, ◌+ℤ◌, ◌*ℤ◌, nat_abs, sym, refl, ap, ◌∙◌, arith, to_z-of_z, w64, SFits, to_z, of_z}
use Rattle.std.proofs.lemmas.Int.{fits_signed_from_abs}
use Rattle.algebra.proofs.Expression.{var, lit, neg, ◌⊞◌, ◌⊠◌}
use Rattle.algebra.proofs.Certificate.{◌≐◌, eqn, num, ◌⊕◌, prove≡}
use Rattle.wide.specs.Low.{HasLowWord}
use Rattle.wide.specs.declared.Wide.{Wide}
use Rattle.wide.proofs.Told.{told_by_value}

-- What is left of a number after it wrapped, and how often it did.
wraps : (n : ℕ) → n ≡ n / 2 ^ 64 * 2 ^ 64 + n % 2 ^ 64
wraps n = omega arith

-- ---- a product
multiplied : (y z k l : ℤ) (v w q r : ℕ) → y ≡ k *ℤ pos (2 ^ 64) +ℤ pos v → z ≡ l *ℤ pos (2 ^ 64) +ℤ pos w → v * w ≡ q * 2 ^ 64 + r
    → y *ℤ z ≡ (k *ℤ z +ℤ l *ℤ pos v +ℤ pos q) *ℤ pos (2 ^ 64) +ℤ pos r
multiplied y z k l v w q r ey ez er =
    let p = lit (pos (2 ^ 64)) in
    prove≡ (y ∷ z ∷ k ∷ l ∷ pos v ∷ pos w ∷ pos q ∷ pos r ∷ [])
    ((var 0 ≐ var 2 ⊠ p ⊞ var 4) ∷ (var 1 ≐ var 3 ⊠ p ⊞ var 5) ∷ (var 4 ⊠ var 5 ≐ var 6 ⊠ p ⊞ var 7) ∷ [])
    (var 0 ⊠ var 1) ((var 2 ⊠ var 1 ⊞ var 3 ⊠ var 4 ⊞ var 6) ⊠ p ⊞ var 7) (num 1) (eqn 0 (var 1) ⊕ eqn 1 (var 4) ⊕ eqn 2 (lit (pos 1))) tt tt tt refl ey ez (ap pos er)

-- The low word of a product is the product of the low words, wrapped.
pub product_low : {y z : ℤ} {v w r : ℕ} → HasLowWord y v → HasLowWord z w → r ≡ (v * w) % 2 ^ 64 → HasLowWord (y *ℤ z) r
product_low {y} {z} {v} {w} {r} a b e = record {
  high = a.high *ℤ z +ℤ b.high *ℤ pos v +ℤ pos (v * w / 2 ^ 64);
  is = multiplied y z a.high b.high v w (v * w / 2 ^ 64) r a.is b.is (wraps (v * w) ∙ ap (λ (n : ℕ). v * w / 2 ^ 64 * 2 ^ 64 + n) (sym e));
  small = omega (arith, e);
}

-- The bits of a number of 64 bits are its low word.
negsuc_is : (n : ℕ) → suc n ≤ 2 ^ 64 → negsuc n ≡ negsuc 0 *ℤ pos (2 ^ 64) +ℤ pos (2 ^ 64 - suc n)
negsuc_is n h =
    prove≡ (negsuc n ∷ pos (2 ^ 64 - suc n) ∷ []) ((neg (var 0) ⊞ var 1 ≐ lit (pos (2 ^ 64))) ∷ [])
    (var 0) (lit (negsuc 0) ⊠ lit (pos (2 ^ 64)) ⊞ var 1) (num 1) (eqn 0 (lit (negsuc 0))) tt tt tt refl (ap pos (omega arith))

pub bits_low : (z : ℤ) → SFits w64 z → HasLowWord z (of_z w64 z)
bits_low (pos n) f = record { high = pos 0; is = ap pos (omega arith); small = omega (arith, f.sfits) }
bits_low (negsuc n) f = record { high = negsuc 0; is = negsuc_is n (omega (arith, f.sfits)); small = omega (arith, f.sfits) }

-- ---- a sum
added : (y z k l : ℤ) (v w q r : ℕ) → y ≡ k *ℤ pos (2 ^ 64) +ℤ pos v → z ≡ l *ℤ pos (2 ^ 64) +ℤ pos w → v + w ≡ q * 2 ^ 64 + r
    → y +ℤ z ≡ (k +ℤ l +ℤ pos q) *ℤ pos (2 ^ 64) +ℤ pos r
added y z k l v w q r ey ez er =
    let p = lit (pos (2 ^ 64)) in
    prove≡ (y ∷ z ∷ k ∷ l ∷ pos v ∷ pos w ∷ pos q ∷ pos r ∷ [])
    ((var 0 ≐ var 2 ⊠ p ⊞ var 4) ∷ (var 1 ≐ var 3 ⊠ p ⊞ var 5) ∷ (var 4 ⊞ var 5 ≐ var 6 ⊠ p ⊞ var 7) ∷ [])
    (var 0 ⊞ var 1) ((var 2 ⊞ var 3 ⊞ var 6) ⊠ p ⊞ var 7) (num 1) (eqn 0 (lit (pos 1)) ⊕ eqn 1 (lit (pos 1)) ⊕ eqn 2 (lit (pos 1))) tt tt tt refl ey ez (ap pos er)

-- The low word of a sum is the sum of the low words, wrapped.
pub sum_low : {y z : ℤ} {v w r : ℕ} → HasLowWord y v → HasLowWord z w → r ≡ (v + w) % 2 ^ 64 → HasLowWord (y +ℤ z) r
sum_low {y} {z} {v} {w} {r} a b e = record {
  high = a.high +ℤ b.high +ℤ pos ((v + w) / 2 ^ 64);
  is = added y z a.high b.high v w ((v + w) / 2 ^ 64) r a.is b.is (wraps (v + w) ∙ ap (λ (n : ℕ). (v + w) / 2 ^ 64 * 2 ^ 64 + n) (sym e));
  small = omega (arith, e);
}

-- ---- the number that is told
-- It is below 2^63 in size, so that its bits are its low word.
pub low_told : (z : ℤ) (w : ℕ) → HasLowWord z w → nat_abs z < 2 ^ 63 → to_z w64 w ≡ z
low_told z w l h =
    let f : SFits w64 z = fits_signed_from_abs w64 z h in
    let b = bits_low z f in
    ap (to_z w64) (ap (λ (x : Wide). x.lo) (told_by_value (record { hi = l.high; lo = w }) (record { hi = b.high; lo = of_z w64 z }) l.small b.small (sym l.is ∙ b.is)))
    ∙ to_z-of_z f
