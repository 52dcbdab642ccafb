-- How far an estimate may be off, as a double, and its bits. Assumes nothing.
use mathlib.Core.Path.{◌≡◌, refl}
use lib.Dec.{lit≤}
use lib.IntN.{pos}
use lib.Ieee.{binary64, of_bits, of_int}
use Rattle.estimates.specs.Doubles.{double, Whole, error_limit}
use Rattle.estimates.proofs.Wholes.{double_whole}

pub limit_whole : Whole (double (pos error_limit)) (pos error_limit)
limit_whole = double_whole (pos error_limit) (lit≤ tt)

-- It is the number in src/lib.rt, which a proof sees by its bits.
pub limit_bits : of_bits binary64 4804777852450897920 ≡ double (pos error_limit)
unfolding of_bits of_int
limit_bits = refl
