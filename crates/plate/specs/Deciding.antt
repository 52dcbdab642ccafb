-- Whether some corner of one part is inside the other, decided by signs. No public promise speaks of it: crate slots' proofs/Swallowed.antt shows that it
-- says what specs/Parts.antt there asks.
use Rattle.std.specs.Prelude.{Bool, true, cond, List, ℕ}
use Rattle.shape.specs.Points.{Shape}
use Rattle.shape.specs.InsideTest.{corner_in}
use Rattle.slots.specs.Slots.{Slot}
use Rattle.slots.specs.Parts.{triangles_of}

-- Of two lists of triangles.
abbrev pub either_inside : List Shape → List Shape → Bool
either_inside Ps Qs = cond (corner_in Ps Qs) true (corner_in Qs Ps)

abbrev pub either_in : List Slot → ℕ → ℕ → Bool
either_in S p q = either_inside (triangles_of p S) (triangles_of q S)
