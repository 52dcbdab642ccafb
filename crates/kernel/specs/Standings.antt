-- The vocabulary of a verdict that is found in stages: how each of two triangles stands to the other's plane, by the numbers that crate `space` gives
-- to standings, and then the last two signs. Nobody has to know what the numbers mean who knows what they are worth: proofs/Stages.antt.
use Rattle.std.specs.Prelude.{◌≡◌, List, ℕ, ◌<◌, ℤ, Float}
use Rattle.shape.specs.SpaceTest.{pattern}
use Rattle.exact.specs.Vectors.{plane_row}
use Rattle.space.specs.Spaces.{of_lists, Stands, Crosses, last_signs_by}

-- The number s is that of the standing of t to the plane of u, nine numbers each.
abbrev pub StandsTo : (t u : List ℤ) → ℕ → Type 0
StandsTo t u s = Stands (of_lists pattern t u) s

-- The plane of u in doubles, as a row of three numbers.
abbrev pub IsPlane : List ℤ → List Float → Type 0
IsPlane u plane = plane ≡ plane_row u

-- The number s tells the same by the estimate: a number from 16 on tells nothing.
abbrev pub SeemsTo : (t u : List ℤ) → ℕ → Type 0
SeemsTo t u s = s < 16 → StandsTo t u s

-- What the last two signs say by the estimate, where s and r are the standings: 1 that the triangles meet, 0 that they don't; a number from 2 on
-- tells nothing.
abbrev pub SeemToMeet : (t u : List ℤ) → (s r v : ℕ) → Type 0
SeemToMeet t u s r v = Crosses (last_signs_by s r t u) v

-- The standings s of t and r of u are known as far as a verdict on both asks for them: that of u, which is not beside the plane of t; and that of t,
-- where u is not within that plane, which is not beside the plane of u.
pub record Stood (t u : List ℤ) (s r : ℕ) : Type 0 where
  pub second : StandsTo u t r
  pub near_first : r ≡ 0 → ⊥
  pub first : (r ≡ 1 → ⊥) → StandsTo t u s
  pub near_second : (r ≡ 1 → ⊥) → s ≡ 0 → ⊥
