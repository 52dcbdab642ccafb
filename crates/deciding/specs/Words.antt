-- The vocabulary of the verdicts that are kept, a bit a pair: a word of 64 bits has the verdicts of one triangle of the first list on up to
-- 64 of the second, the first of them lowest, and 16 words have those on all 1,024. Word k of all is of triangle k / 16 of the first list, from
-- triangle `first_of k` of the second on.
use Rattle.std.specs.Prelude.{◌≡◌, true, List, ℕ, zero, suc, ◌+◌, ◌/◌, ◌^◌, ◌<◌, ℤ, get_or}
use Rattle.shape.specs.Points.{points_at}
use Rattle.shape.specs.Sharing.{Share}
use Rattle.kernel.specs.Meeting.{Judges}
use Rattle.words.specs.Bits.{bit, ones}
use Rattle.words.specs.Spans.{first_of, span}
use Rattle.boxes.specs.Triangles.{triangles, nine}

-- A word that has n candidates for the triangle of nine numbers `corners` and those of the second list from `from` on: a bit is set where the two
-- have a point in common, and may be set where they have none.
pub record MayMeet (corners second : List ℤ) (from n word : ℕ) : Type 0 where
  pub small : word < 2 ^ n
  pub set : (t : ℕ) → t < n → Share 3 (points_at 3 3 0 corners) (points_at 3 3 0 (nine (from + t) second)) → bit t word ≡ true

-- A word that has n verdicts on the triangle of nine numbers `corners` and those of the second list from `from` on.
pub record Verdicts (corners second : List ℤ) (from n word : ℕ) : Type 0 where
  pub small : word < 2 ^ n
  pub right : (t : ℕ) → t < n → Judges 3 3 3 corners (nine (from + t) second) (bit t word)

-- How many verdicts of the first k words are yes.
abbrev pub ones_below : ℕ → List ℕ → ℕ → ℕ
ones_below m words zero = 0
ones_below m words (suc k) = ones_below m words k + ones (span m (first_of k)) (get_or words k 0)

-- All candidates, and all verdicts, of the first n words on two lists.
abbrev pub MayMeetBelow : List ℤ → List ℤ → List ℕ → ℕ → Type 0
MayMeetBelow a b words n = (k : ℕ) → k < n → MayMeet (nine (k / 16) a) b (first_of k) (span (triangles b) (first_of k)) (get_or words k 0)

abbrev pub VerdictsBelow : List ℤ → List ℤ → List ℕ → ℕ → Type 0
VerdictsBelow a b words n = (k : ℕ) → k < n → Verdicts (nine (k / 16) a) b (first_of k) (span (triangles b) (first_of k)) (get_or words k 0)

-- The first n words are decided, and so many of their verdicts are yes.
pub record Decided (a b : List ℤ) (words : List ℕ) (n found : ℕ) : Type 0 where
  pub right : VerdictsBelow a b words n
  pub count : found ≡ ones_below (triangles b) words n
