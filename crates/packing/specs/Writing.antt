-- Numbers into bytes, low byte first: the way back from Reading.antt.
use Rattle.std.specs.Prelude.{List, [], ◌∷◌, ◌++◌, ℕ, zero, suc, ◌-◌, ◌/◌, ◌%◌, ℤ, pos, negsuc}

-- The k low bytes of a number, low byte first.
abbrev pub spread : ℕ → ℕ → List ℕ
spread zero n = []
spread (suc k) n = n % 256 ∷ spread k (n / 256)

-- The 32 bits of a signed number: 2^32 above it where it is below zero. (`negsuc m` is -(m + 1).)
abbrev pub bits_of : ℤ → ℕ
bits_of (pos n) = n
bits_of (negsuc m) = 4294967295 - m

-- The bytes of numbers, four each.
abbrev pub bytes_of : List ℤ → List ℕ
bytes_of [] = []
bytes_of (z ∷ numbers) = spread 4 (bits_of z) ++ bytes_of numbers
