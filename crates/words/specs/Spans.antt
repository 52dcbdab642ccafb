-- Which triangles of a list a word tells of, a bit a triangle: a row of 16 words has a bit for each of 1,024 triangles.
use Rattle.std.specs.Prelude.{ℕ, ◌-◌, ◌*◌, ◌%◌, min}

-- The first triangle of word k, where row after row has 16 words.
abbrev pub first_of : ℕ → ℕ
first_of k = k % 16 * 64

-- How many of m triangles there are from one on, 64 at the most.
abbrev pub span : ℕ → ℕ → ℕ
span m from = min 64 (m - from)
