-- Rows of the numbers in which an answer is told, by computing alone: which stands where, and what each code is. Assumes nothing.
use mathlib.Core.Path.{◌≡◌, refl}
use mathlib.Core.Bool.{true, false}
use mathlib.Core.List.{[], ◌∷◌}
use lib.IntN.{pos, negsuc}
use Rattle.shape.specs.Signs.{digit}
use Rattle.checks.specs.Answers.{served, refused}
use Rattle.telling.specs.Numbers.{verdict_code, four_numbers, one_number}

pub served_row : four_numbers (served 7) ≡ 0 ∷ 0 ∷ 0 ∷ 7 ∷ []
served_row = refl

pub refused_row : four_numbers (refused 3 1 8) ≡ 3 ∷ 1 ∷ 8 ∷ 0 ∷ []
refused_row = refl

pub one_number_row : (one_number (served 1) ≡ 1) × (one_number (refused 3 1 8) ≡ 103)
one_number_row = (refl, refl)

pub verdict_row : (verdict_code false ≡ 0) × (verdict_code true ≡ 1)
verdict_row = (refl, refl)

pub sign_row : (digit (negsuc 0) ≡ 0) × (digit (pos 0) ≡ 1) × (digit (pos 1) ≡ 2)
sign_row = (refl, refl, refl)
