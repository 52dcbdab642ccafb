-- The low word of a number: a word of the inside.
use Rattle.std.specs.Prelude.{◌≡◌, ℕ, ◌^◌, ◌<◌, ℤ, pos, ◌+ℤ◌, ◌*ℤ◌}

-- The word w is the low word of z: z is a whole number of times 2^64, and w.
pub record HasLowWord (z : ℤ) (w : ℕ) : Type 0 where
  pub high : ℤ
  pub is : z ≡ high *ℤ pos (2 ^ 64) +ℤ pos w
  pub small : w < 2 ^ 64
