-- Rows of a listing's order, by computing alone: the first index before the second, and pairs rising by the first. Assumes nothing.
use mathlib.Core.Path.{◌≡◌, refl}
use mathlib.Core.Bool.{true}
use mathlib.Core.List.{[], ◌∷◌}
use Rattle.listing.specs.Pairs.{pairs_of, two_each}

pub two_each_row : two_each ((0, 1) ∷ (2, 3) ∷ []) ≡ 0 ∷ 1 ∷ 2 ∷ 3 ∷ []
two_each_row = refl

pub all_pairs_row : pairs_of (λ i j. true) 2 3 ≡ (0, 0) ∷ (0, 1) ∷ (0, 2) ∷ (1, 0) ∷ (1, 1) ∷ (1, 2) ∷ []
all_pairs_row = refl
