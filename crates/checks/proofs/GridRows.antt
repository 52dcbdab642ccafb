-- Rows of the grid, by computing alone: its ends are on it, and what is one farther is not. Assumes nothing.
use mathlib.Core.Path.{◌≡◌, refl}
use mathlib.Core.Bool.{true, false}
use lib.IntN.{pos, negsuc}
use Rattle.checks.specs.Grid.{on_grid}

pub upper_end_row : (on_grid (pos 1073741824) ≡ true) × (on_grid (pos 1073741825) ≡ false)
upper_end_row = (refl, refl)

pub lower_end_row : (on_grid (negsuc 1073741823) ≡ true) × (on_grid (negsuc 1073741824) ≡ false)
lower_end_row = (refl, refl)
