-- What the cases of a sign stand for. The sign calls cite it, and nothing else of this crate's vocabulary but the grid.
use Rattle.std.specs.Prelude.{ℤ, pos, negsuc}
use Rattle.exact.specs.declared.determinant.Sign.{Sign}
use Rattle.exact.specs.declared.determinant.Sign.TheVariants.{Negative, Zero, Positive}

-- A sign is -1, 0 or 1.
abbrev pub sign_number : Sign → ℤ
sign_number Negative = negsuc 0
sign_number Zero = pos 0
sign_number Positive = pos 1
