-- What the tests of src/meeting.rt promise, by the definition and by nothing of how they decide.
use Rattle.std.specs.Prelude.{Bool, List, ℕ, ℤ}
use Rattle.shape.specs.Points.{points_at}
use Rattle.shape.specs.Sharing.{Share}
use Rattle.shape.specs.Verdicts.{Says}

-- A verdict on two shapes in n coordinates, of k and of m corners, a list each: yes exactly when they have a point in common.
abbrev pub Judges : (n k m : ℕ) → (first second : List ℤ) → Bool → Type 0
Judges n k m first second verdict = Says verdict (Share n (points_at n k 0 first) (points_at n m 0 second))
