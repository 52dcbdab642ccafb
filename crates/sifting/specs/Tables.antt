-- Tables of words that tell of many boxes at once which of them a box may reach. Each of the six ends has 16 marks, and each mark a row of 16 words,
-- with a bit for each of 1,024 boxes: it is set where the box begins before the mark. A box whose reach ends before the mark reaches only those. The
-- last row is of no mark, and all its bits are set.
use Rattle.std.specs.Prelude.{◌≡◌, true, ◌⊎◌, List, ℕ, ◌+◌, ◌-◌, ◌*◌, ◌/◌, ◌^◌, ◌≤◌, ◌<◌, ℤ, pos, length, get_or, ◌<ℤ◌}
use Rattle.words.specs.Bits.{bit}
use Rattle.words.specs.Spans.{first_of, span}
use Rattle.boxes.specs.Boxes.{six}
use Rattle.sifting.specs.Ends.{end_of, reach_of, Reaches}

-- A word on n boxes from one on: the bit of a box that begins before the mark, at end e, is set.
abbrev pub Sifts : (boxes : List ℤ) (e : ℕ) (mark : ℤ) (from n word : ℕ) → Type 0
Sifts boxes e mark from n word = (t : ℕ) → t < n → end_of e (six (from + t) boxes) <ℤ mark → bit t word ≡ true

-- Word k of the table is of mark k / 16, and so of the end k / 256.
abbrev pub SiftsAt : (boxes marks : List ℤ) (m : ℕ) (table : List ℕ) (k : ℕ) → Type 0
SiftsAt boxes marks m table k =
    Sifts boxes (k / 256) (get_or marks (k / 16) (pos 0)) (first_of k) (span m (first_of k)) (get_or table k 0)

-- Word w of the last row.
abbrev pub AllSet : (m : ℕ) (table : List ℕ) (w : ℕ) → Type 0
AllSet m table w = get_or table (1536 + w) 0 ≡ 2 ^ span m (w * 64) - 1

-- A table on m boxes.
pub record Table (boxes marks : List ℤ) (m : ℕ) (table : List ℕ) : Type 0 where
  pub size : length table ≡ 1552
  pub rows : (k : ℕ) → k < 1536 → SiftsAt boxes marks m table k
  pub last : (w : ℕ) → w < 16 → AllSet m table w

-- A row that serves a number at end e: the last, or that of a mark of the end which the number is below.
abbrev pub RowFor : (marks : List ℤ) (e : ℕ) (number : ℤ) (row : ℕ) → Type 0
RowFor marks e number row = (row ≡ 96) ⊎ ((row < 96) × (row / 16 ≡ e) × (number <ℤ get_or marks row (pos 0)))

-- A row for each of the six ends of a box.
pub record RowsFor (marks box : List ℤ) (rows : List ℕ) : Type 0 where
  pub each : (e : ℕ) → e < 6 → RowFor marks e (reach_of e box) (get_or rows e 0)

-- Word w of the last row and of six others, joined: a bit that all of them have is set.
pub record Joined (table rows : List ℕ) (w word : ℕ) : Type 0 where
  pub most : word ≤ get_or table (1536 + w) 0
  pub set : (t : ℕ) → bit t (get_or table (1536 + w) 0) ≡ true →
      ((e : ℕ) → e < 6 → bit t (get_or table (16 * get_or rows e 0 + w) 0) ≡ true) → bit t word ≡ true

-- A word that has a bit for each of n boxes from one on: it is set where the first box reaches that one.
pub record Candidates (box boxes : List ℤ) (from n word : ℕ) : Type 0 where
  pub small : word < 2 ^ n
  pub set : (t : ℕ) → t < n → Reaches box (six (from + t) boxes) → bit t word ≡ true

-- The first n words, 16 for each box of the first list, on m boxes of the second.
abbrev pub CandidatesBelow : (bounds boxes : List ℤ) (m : ℕ) (words : List ℕ) (n : ℕ) → Type 0
CandidatesBelow bounds boxes m words n =
    (k : ℕ) → k < n → Candidates (six (k / 16) bounds) boxes (first_of k) (span m (first_of k)) (get_or words k 0)
