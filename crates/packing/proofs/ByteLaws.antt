-- A number out of bytes that lie one after the other, and signed numbers by their bits. Assumes nothing.
use mathlib.Core.Path.{◌≡◌, refl, ap, ◌∙◌}
use mathlib.Core.Bool.{Bool, true, false, cond}
use mathlib.Core.List.{List, [], ◌∷◌}
use Prim.Native.Nat.{ℕ, zero, suc, ◌+◌, ◌-◌, ◌*◌, ◌/◌, ◌%◌, ◌<◌}
use native.Mathlib.Omega.{arith}
use borrow.Author.Tests.{lt-ltb}
use lib.Dec.{ltb}
use lib.IntN.{ℤ, pos, negsuc, ◌-ℤ◌}
use lib.ListN.{length, get_or, drop}
use lib.Seq.{drop-drop}
use mir.Syntax.{w32}
use mir.Val.{sel, to_z, of_z}
use Rattle.packing.specs.Reading.{signed_of, number_in, numbers_in}
use Rattle.std.specs.Int.{to_le_bytes}
use Rattle.packing.specs.Writing.{spread, bits_of}

-- The machine's reading of 32 bits is the definition's.
same_pick : (b : Bool) (x y : ℤ) → sel b x y ≡ cond b x y
same_pick true x y = refl
same_pick false x y = refl

below : (n : ℕ) → n < 4294967296 → negsuc (4294967295 - n) ≡ pos n -ℤ pos 4294967296
below n h = rw (lt-ltb n 4294967296 h) (ap negsuc {x = 4294967295 - n} {y = 4294967296 - suc n} (omega arith))

pub read_bits : (n : ℕ) → n < 4294967296 → to_z w32 n ≡ signed_of n
read_bits n h =
    same_pick (ltb n 2147483648) (pos n) (negsuc (4294967296 - suc n))
    ∙ ap (λ (z : ℤ). cond (ltb n 2147483648) (pos n) z) (ap negsuc {x = 4294967296 - suc n} {y = 4294967295 - n} (omega arith) ∙ below n h)

pub written_bits : (z : ℤ) → of_z w32 z ≡ bits_of z
written_bits (pos n) = refl
written_bits (negsuc m) = let e : 4294967296 - suc m ≡ 4294967295 - m = omega arith in e

-- The bytes that the machine makes of a number are those of its bits.
le_spread : (n : ℕ) → to_le_bytes w32 n ≡ spread 4 n
le_spread n =
    let second : n / 65536 ≡ n / 256 / 256 = omega arith in
    let third : n / 16777216 ≡ n / 256 / 256 / 256 = omega arith in
    (λ i. n % 256 ∷ n / 256 % 256 ∷ second i % 256 ∷ third i % 256 ∷ [])

pub written_bytes : (z : ℤ) → to_le_bytes w32 (of_z w32 z) ≡ spread 4 (bits_of z)
written_bytes z = le_spread (of_z w32 z) ∙ ap (spread 4) (written_bits z)

-- ---- numbers that lie one after the other
pub length_numbers : (n : ℕ) (l : List ℕ) → length (numbers_in n l) ≡ n
unfolding numbers_in
length_numbers zero l = refl
length_numbers (suc n) l = ap suc (length_numbers n (drop 4 l))

pub number_in_law : (n k : ℕ) (l : List ℕ) → k < n → get_or (numbers_in n l) k (pos 0) ≡ number_in (drop (4 * k) l)
unfolding numbers_in
number_in_law zero k l h = absurd (omega (arith, h))
number_in_law (suc n) zero l h = refl
number_in_law (suc n) (suc k) l h =
    number_in_law n k (drop 4 l) (omega (arith, h)) ∙ ap number_in (drop-drop (4 * k) 4 l ∙ ap (λ (m : ℕ). drop m l) {x = 4 + 4 * k} {y = 4 * suc k} (omega arith))
