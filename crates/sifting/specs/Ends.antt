-- The six ends of a box. One comparison serves all six: the greatest coordinates are mirrored, so that at each end a box begins where its number
-- is small, and reaches as far as its reach there.
use Rattle.std.specs.Prelude.{cond, List, ℕ, ◌+◌, ◌-◌, ◌<◌, ltb, ℤ, pos, negsuc, get_or, ◌≤ℤ◌}

-- The number -1 - z: the larger z is, the smaller it is, and it has 32 bits where z has.
abbrev pub mirror : ℤ → ℤ
mirror (pos n) = negsuc n
mirror (negsuc n) = pos n

-- Where a box begins at end e: its least x, y and z, and its greatest, mirrored.
abbrev pub end_of : ℕ → List ℤ → ℤ
end_of e box = cond (ltb e 3) (get_or box e (pos 0)) (mirror (get_or box e (pos 0)))

-- How far a box reaches at end e: its greatest x, y and z, and its least, mirrored.
abbrev pub reach_of : ℕ → List ℤ → ℤ
reach_of e box = cond (ltb e 3) (get_or box (e + 3) (pos 0)) (mirror (get_or box (e - 3) (pos 0)))

-- The first box reaches the second at every end.
abbrev pub Reaches : List ℤ → List ℤ → Type 0
Reaches first second = (e : ℕ) → e < 6 → end_of e second ≤ℤ reach_of e first
