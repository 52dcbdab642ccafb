-- The longest sheet and the line of one that is longer, as document 02 states them. Assumes nothing.
use mathlib.Core.Path.{◌≡◌, refl, subst}
use mathlib.Core.List.{List, [], ◌∷◌}
use Prim.Native.Nat.{ℕ, ◌<◌}
use lib.ListN.{length}
use Rattle.lines.specs.Lines.{line_of, decimal}
use Rattle.answering.specs.Sheets.{longest, Output, long}

pub longest_row : longest ≡ 65536
longest_row = refl

-- `15 0` and a newline.
fifteen : line_of 15 0 ≡ 49 ∷ 53 ∷ 32 ∷ 48 ∷ 10 ∷ []
unfolding line_of decimal
fifteen = refl

pub too_long_row : (sheet : List ℕ) → 65536 < length sheet → Output sheet (49 ∷ 53 ∷ 32 ∷ 48 ∷ 10 ∷ [])
too_long_row sheet more = subst (Output sheet) fifteen (long more)
