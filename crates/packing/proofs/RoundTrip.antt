-- What is written is read as it was, and what is read is written as it was: proved once, for every number of bytes and of numbers. Assumes
-- nothing.
use mathlib.Core.Path.{◌≡◌, refl, sym, ap, ◌∙◌, subst}
use mathlib.Core.List.{List, [], ◌∷◌, ◌++◌, append-nil}
use Prim.Native.Nat.{ℕ, zero, suc, ◌+◌, ◌*◌, ◌/◌, ◌%◌, ◌^◌, ◌<◌}
use native.Mathlib.Omega.{arith}
use lib.IntN.{ℤ}
use lib.ListN.{length}
use mir.Syntax.{w32}
use mir.Val.{SFits, Fits, to_z, of_z}
use mir.Facts.{to_z-of_z, of_z-to_z, Fits-of_z}
use Rattle.packing.specs.Reading.{low_first, signed_of, numbers_in}
use Rattle.packing.specs.Writing.{spread, bits_of, bytes_of}
use Rattle.packing.proofs.ByteLaws.{read_bits, written_bits}

-- Every element is a byte.
pub data Bytes : List ℕ → Type 0 where
  none : Bytes []
  one : {b : ℕ} {l : List ℕ} → b < 256 → Bytes l → Bytes (b ∷ l)

pub bytes_append : {l m : List ℕ} → Bytes l → Bytes m → Bytes (l ++ m)
bytes_append none c = c
bytes_append (one h b) c = one h (bytes_append b c)

-- Every element is a signed number of 32 bits.
pub data Words : List ℤ → Type 0 where
  none : Words []
  one : {z : ℤ} {l : List ℤ} → SFits w32 z → Words l → Words (z ∷ l)

-- ---- k bytes of a number
pub length_spread : (k n : ℕ) → length (spread k n) ≡ k
length_spread zero n = refl
length_spread (suc k) n = ap suc (length_spread k (n / 256))

pub spread_bytes : (k n : ℕ) → Bytes (spread k n)
spread_bytes zero n = none
spread_bytes (suc k) n = one {b = n % 256} (omega arith) (spread_bytes k (n / 256))

pub spread_read : (k n : ℕ) → n < 256 ^ k → low_first (spread k n) ≡ n
spread_read zero n h = omega arith
spread_read (suc k) n h = omega (arith, spread_read k (n / 256) (omega arith))

pub read_spread : {l : List ℕ} → Bytes l → spread (length l) (low_first l) ≡ l
read_spread none = refl
read_spread (one {b} {l} h r) =
    let low : (b + 256 * low_first l) % 256 ≡ b = omega arith in
    let high : (b + 256 * low_first l) / 256 ≡ low_first l = omega arith in
    (λ i. low i ∷ spread (length l) (high i)) ∙ ap (λ (t : List ℕ). b ∷ t) (read_spread r)

-- ---- signed numbers
bits_small : {z : ℤ} → SFits w32 z → bits_of z < 4294967296
bits_small {z} f = subst (λ (n : ℕ). n < 4294967296) (written_bits z) (Fits-of_z {w = w32} f).fits

pub signed_bits : {z : ℤ} → SFits w32 z → signed_of (bits_of z) ≡ z
signed_bits {z} f = sym (read_bits (bits_of z) (bits_small f)) ∙ ap (to_z w32) (sym (written_bits z)) ∙ to_z-of_z f

pub bits_signed : {n : ℕ} → Fits w32 n → bits_of (signed_of n) ≡ n
bits_signed {n} f = sym (written_bits (signed_of n)) ∙ ap (of_z w32) (sym (read_bits n f.fits)) ∙ of_z-to_z f

-- ---- numbers one after the other
-- What is written is read as it was, whatever follows it,
pub numbers_read : {numbers : List ℤ} → Words numbers → (rest : List ℕ) → numbers_in (length numbers) (bytes_of numbers ++ rest) ≡ numbers
unfolding numbers_in
numbers_read none rest = refl
numbers_read (one {z} {l} f w) rest =
    let this : signed_of (low_first (spread 4 (bits_of z))) ≡ z = ap signed_of (spread_read 4 (bits_of z) (bits_small f)) ∙ signed_bits f in
    (λ i. this i ∷ numbers_read w rest i)

-- or with nothing behind it,
pub numbers_alone : {numbers : List ℤ} {k : ℕ} → length numbers ≡ k → Words numbers → numbers_in k (bytes_of numbers) ≡ numbers
numbers_alone {numbers} many words = (λ i. numbers_in (sym many i) (sym (append-nil (bytes_of numbers)) i)) ∙ numbers_read words []

-- and what is read is written as it was.
pub bytes_read : (k : ℕ) {l : List ℕ} → Bytes l → length l ≡ 4 * k → bytes_of (numbers_in k l) ≡ l
unfolding numbers_in
bytes_read zero none e = refl
bytes_read zero (one h b) e = absurd (omega (arith, e))
bytes_read (suc k) none e = absurd (omega (arith, e))
bytes_read (suc k) (one g none) e = absurd (omega (arith, e))
bytes_read (suc k) (one f (one g none)) e = absurd (omega (arith, e))
bytes_read (suc k) (one p (one f (one g none))) e = absurd (omega (arith, e))
bytes_read (suc k) (one {b = a} p (one {b = b} f (one {b = c} g (one {b = d} {l = l} h more)))) e =
    let word : ℕ = low_first (a ∷ b ∷ c ∷ d ∷ []) in
    let small : word < 4294967296 = omega arith in
    let this : spread 4 (bits_of (signed_of word)) ≡ a ∷ b ∷ c ∷ d ∷ [] =
    ap (spread 4) (bits_signed (record { fits = small })) ∙ read_spread (one p (one f (one g (one h none)))) in
    (λ i. this i ++ bytes_read k more (omega (arith, e)) i)

-- What is written are bytes, four a number.
pub numbers_bytes : (numbers : List ℤ) → Bytes (bytes_of numbers)
numbers_bytes [] = none
numbers_bytes (z ∷ numbers) = bytes_append (spread_bytes 4 (bits_of z)) (numbers_bytes numbers)

pub length_bytes : (numbers : List ℤ) → length (bytes_of numbers) ≡ 4 * length numbers
length_bytes [] = refl
length_bytes (z ∷ numbers) = omega (arith, length_bytes numbers)
