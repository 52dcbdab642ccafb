-- A list of triangles in space, nine numbers each: how many it holds, and each of them.
use Rattle.std.specs.Prelude.{List, ℕ, ◌*◌, ◌/◌, ℤ, length, take, drop}

-- How many triangles a list holds.
abbrev pub triangles : List ℤ → ℕ
triangles numbers = length numbers / 9

-- The nine numbers of the triangle with index i.
abbrev pub nine : ℕ → List ℤ → List ℤ
nine i numbers = take 9 (drop (9 * i) numbers)
