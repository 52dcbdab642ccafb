-- The vocabulary of the stages in which a word of candidates is decided (src/standings.rt and src/verdicts.rt). A stage goes over the places that are set in a word; for each
-- it looks at one triangle of each of two lists, and it leaves a number or a bit there.
use Rattle.std.specs.Prelude.{◌≡◌, Bool, true, false, ◌&&◌, ◌||◌, List, ◌⊎◌, ℕ, ◌^◌, ◌<◌, eqb, ltb, length, get_or}
use Rattle.shape.specs.Points.{points_at}
use Rattle.shape.specs.Sharing.{Share}
use Rattle.space.specs.Spaces.{Numbered, last_signs_by}
use Rattle.kernel.specs.Meeting.{Judges}
use Rattle.kernel.specs.Standings.{StandsTo, SeemsTo, SeemToMeet, Stood}
use Rattle.words.specs.Bits.{bit}
use Rattle.deciding.specs.declared.places.Pairs.{Pairs}
use Rattle.deciding.specs.declared.verdicts.Stances.{Stances}
use Rattle.deciding.specs.Places.{lined, Paired, Posed}

-- No place that is asked is set in the word.
abbrev pub Clear : (asked word : ℕ) → Type 0
Clear asked word = (z : ℕ) → bit z asked ≡ true → bit z word ≡ false

-- The number s is that of the standing of the first triangle of place z to the plane of the second; by the estimate, where that can tell.
pub record StandsAt (p : Pairs) (z s : ℕ) : Type 0 where
  pub stands : StandsTo (lined p.first z) (lined p.second z) s

pub record SeemsAt (p : Pairs) (z s : ℕ) : Type 0 where
  pub seems : SeemsTo (lined p.first z) (lined p.second z) s

-- The numbers of a list at the places that are asked: each says what it should, and all others are as they were.
pub record Told (Says : ℕ → ℕ → Type 0) (asked : ℕ) (before after : List ℕ) : Type 0 where
  pub long : length after ≡ 64
  pub says : (z : ℕ) → bit z asked ≡ true → Says z (get_or after z 0)
  pub stays : (z : ℕ) → bit z asked ≡ false → get_or after z 0 ≡ get_or before z 0

-- The word that was `start`: each place that is asked has a bit that is right, and all others are as they were.
pub record Marked (Right : ℕ → Bool → Type 0) (start asked word : ℕ) : Type 0 where
  pub small : (n : ℕ) → start < 2 ^ n → asked < 2 ^ n → word < 2 ^ n
  pub right : (z : ℕ) → bit z asked ≡ true → Right z (bit z word)
  pub stays : (z : ℕ) → bit z asked ≡ false → bit z word ≡ bit z start

-- What the bits of a stage say of the numbers there: of those that the estimate gave, that a corner is alone, and that it is not told; of those that are
-- exact, that a corner is alone, and that the triangle is within the plane.
abbrev pub seems_alone : ℕ → Bool
seems_alone s = ltb 1 s && ltb s 16

abbrev pub is_open : ℕ → Bool
is_open s = eqb s 1 || ltb 15 s

abbrev pub is_alone : ℕ → Bool
is_alone s = ltb 1 s

abbrev pub is_within : ℕ → Bool
is_within s = eqb s 1

-- Two words: at each place that is asked the two bits are right together. Elsewhere the first has none, and the second those of `close`.
pub record Parted (Right : ℕ → Bool → Bool → Type 0) (asked close kept other : ℕ) : Type 0 where
  pub kept_small : (n : ℕ) → asked < 2 ^ n → kept < 2 ^ n
  pub kept_none : (z : ℕ) → bit z asked ≡ false → bit z kept ≡ false
  pub other_small : (n : ℕ) → close < 2 ^ n → asked < 2 ^ n → other < 2 ^ n
  pub other_stays : (z : ℕ) → bit z asked ≡ false → bit z other ≡ bit z close
  pub right : (z : ℕ) → bit z asked ≡ true → Right z (bit z kept) (bit z other)

-- The standing of the first triangle of place z to the plane of the second, whose number is there, told by two bits: one that a corner is
-- alone, the other that it is within the plane, and neither that the two triangles have no point in common.
pub record SortedAt (p : Pairs) (standings : List ℕ) (z : ℕ) (kept other : Bool) : Type 0 where
  pub alone : kept ≡ true → StandsTo (lined p.first z) (lined p.second z) (get_or standings z 0)
  pub near : kept ≡ true → 1 < get_or standings z 0
  pub within : other ≡ true → StandsTo (lined p.first z) (lined p.second z) (get_or standings z 0)
  pub close : other ≡ true → get_or standings z 0 ≡ 1
  pub apart : kept ≡ false → other ≡ false → Share 3 (points_at 3 3 0 (lined p.first z)) (points_at 3 3 0 (lined p.second z)) → ⊥

-- ---- the verdicts
-- The pair of place z, with a number for each standing.
pub record Faced (s : Stances) (z : ℕ) : Type 0 where
  pub pair : Paired s.pairs z
  pub within : z < 64

-- The pairs of the places that are asked.
pub record Numbering (s : Stances) (asked : ℕ) : Type 0 where
  pub posed : Posed s.pairs asked

-- The numbers of place z, or of all places that are asked, are those of standings.
abbrev pub NumberedAt : Stances → ℕ → Type 0
NumberedAt s z = Numbered (get_or s.first.now z 0) × Numbered (get_or s.second.now z 0)

abbrev pub AllNumbered : Stances → (asked : ℕ) → Type 0
AllNumbered s asked = (z : ℕ) → bit z asked ≡ true → NumberedAt s z

-- What the last two signs of the pair of place z say by the estimate.
pub record Crossing (s : Stances) (z v : ℕ) : Type 0 where
  pub seems : SeemToMeet (lined s.pairs.first z) (lined s.pairs.second z) (get_or s.first.now z 0) (get_or s.second.now z 0) v

abbrev pub says_meeting : ℕ → Bool
says_meeting v = eqb v 1

abbrev pub is_untold : ℕ → Bool
is_untold v = ltb 1 v

-- The two triangles of place z, whose standings are there by their numbers: one bit says whether the last two signs say that they
-- meet, unless the other says that this is not told.
pub record CrossedAt (s : Stances) (z : ℕ) (kept other : Bool) : Type 0 where
  pub told : other ≡ false → kept ≡ last_signs_by (get_or s.first.now z 0) (get_or s.second.now z 0) (lined s.pairs.first z) (lined s.pairs.second z)
  pub not_told : other ≡ true → kept ≡ false

-- Each triangle of the pairs that are asked has a corner alone.
pub record AllAlone (s : Stances) (asked : ℕ) : Type 0 where
  pub stands_first : (z : ℕ) → bit z asked ≡ true → StandsTo (lined s.pairs.first z) (lined s.pairs.second z) (get_or s.first.now z 0)
  pub near_second : (z : ℕ) → bit z asked ≡ true → 1 < get_or s.first.now z 0
  pub stands_second : (z : ℕ) → bit z asked ≡ true → StandsTo (lined s.pairs.second z) (lined s.pairs.first z) (get_or s.second.now z 0)
  pub near_first : (z : ℕ) → bit z asked ≡ true → 1 < get_or s.second.now z 0

-- The standings of the pair of place z, or of all that are asked, are known as far as a verdict asks for them.
abbrev pub StoodAt : Stances → ℕ → Type 0
StoodAt s z = Stood (lined s.pairs.first z) (lined s.pairs.second z) (get_or s.first.now z 0) (get_or s.second.now z 0)

abbrev pub AllStood : Stances → (asked : ℕ) → Type 0
AllStood s asked = (z : ℕ) → bit z asked ≡ true → StoodAt s z

-- A verdict on the two triangles of place z.
pub record JudgedAt (p : Pairs) (z : ℕ) (verdict : Bool) : Type 0 where
  pub judges : Judges 3 3 3 (lined p.first z) (lined p.second z) verdict

-- The verdicts on the pairs that each have a corner alone, and on the close ones. No other bit is set.
pub record Judged (p : Pairs) (alone close word : ℕ) : Type 0 where
  pub small : (n : ℕ) → alone < 2 ^ n → close < 2 ^ n → word < 2 ^ n
  pub right : (z : ℕ) → (bit z alone ≡ true) ⊎ (bit z close ≡ true) → JudgedAt p z (bit z word)
  pub none : (z : ℕ) → bit z alone ≡ false → bit z close ≡ false → bit z word ≡ false
