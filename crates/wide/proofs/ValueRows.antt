-- Rows of `value`: pairs of words, and the numbers that they are by computing alone. -1, the numbers at which the low word ends, and both ends of what two
-- words hold. Assumes nothing.
use Rattle.std.proofs.Common.{◌≡◌, ◌-◌, ◌^◌, pos, negsuc, refl}
use Rattle.wide.specs.Value.{value}

pub minus_one_row : value (record { hi = negsuc 0; lo = 2 ^ 64 - 1 }) ≡ negsuc 0
minus_one_row = refl

pub below_word_row : value (record { hi = pos 0; lo = 2 ^ 64 - 1 }) ≡ pos (2 ^ 64 - 1)
below_word_row = refl

pub word_row : value (record { hi = pos 1; lo = 0 }) ≡ pos (2 ^ 64)
word_row = refl

pub minus_word_row : value (record { hi = negsuc 0; lo = 0 }) ≡ negsuc (2 ^ 64 - 1)
minus_word_row = refl

pub highest_row : value (record { hi = pos (2 ^ 63 - 1); lo = 2 ^ 64 - 1 }) ≡ pos (2 ^ 127 - 1)
highest_row = refl

pub lowest_row : value (record { hi = negsuc (2 ^ 63 - 1); lo = 0 }) ≡ negsuc (2 ^ 127 - 1)
lowest_row = refl
