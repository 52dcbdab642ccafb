-- Numbers out of bytes, low byte first (document 02, Q-2).
use Rattle.std.specs.Prelude.{cond, List, [], ◌∷◌, ℕ, zero, suc, ◌+◌, ◌*◌, ltb, ℤ, pos, ◌-ℤ◌, take, drop}

-- The number that bytes stand for, low byte first.
abbrev pub low_first : List ℕ → ℕ
low_first [] = 0
low_first (b ∷ bytes) = b + 256 * low_first bytes

-- The signed number of 32 bits: from 2^31 on they stand for the number 2^32 below.
abbrev pub signed_of : ℕ → ℤ
signed_of n = cond (ltb n 2147483648) (pos n) (pos n -ℤ pos 4294967296)

-- The signed number in the first four bytes,
abbrev pub number_in : List ℕ → ℤ
number_in bytes = signed_of (low_first (take 4 bytes))

-- and the first k, four bytes each.
unfoldable pub numbers_in : ℕ → List ℕ → List ℤ
numbers_in zero bytes = []
numbers_in (suc k) bytes = number_in bytes ∷ numbers_in k (drop 4 bytes)
