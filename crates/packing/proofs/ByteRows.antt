-- Rows of `numbers_in`: bytes, and the numbers that they are by computing alone. 1, -1, both ends of the grid, both ends of 32 bits, and one
-- whose four bytes all differ. Assumes nothing.
use mathlib.Core.Path.{◌≡◌, refl}
use mathlib.Core.List.{[], ◌∷◌}
use lib.IntN.{pos, negsuc}
use Rattle.packing.specs.Reading.{numbers_in}

pub one_row : numbers_in 1 (1 ∷ 0 ∷ 0 ∷ 0 ∷ []) ≡ pos 1 ∷ []
unfolding numbers_in
one_row = refl

pub minus_one_row : numbers_in 1 (255 ∷ 255 ∷ 255 ∷ 255 ∷ []) ≡ negsuc 0 ∷ []
unfolding numbers_in
minus_one_row = refl

pub grid_rows : numbers_in 2 (0 ∷ 0 ∷ 0 ∷ 64 ∷ 0 ∷ 0 ∷ 0 ∷ 192 ∷ []) ≡ pos 1073741824 ∷ negsuc 1073741823 ∷ []
unfolding numbers_in
grid_rows = refl

pub widest_rows : numbers_in 2 (255 ∷ 255 ∷ 255 ∷ 127 ∷ 0 ∷ 0 ∷ 0 ∷ 128 ∷ []) ≡ pos 2147483647 ∷ negsuc 2147483647 ∷ []
unfolding numbers_in
widest_rows = refl

pub four_bytes_row : numbers_in 1 (4 ∷ 3 ∷ 2 ∷ 1 ∷ []) ≡ pos 16909060 ∷ []
unfolding numbers_in
four_bytes_row = refl
