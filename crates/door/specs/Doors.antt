-- What the doors of the verdict calls and of the listing promise: the numbers of the one answer that is right (crate `telling`), four in the
-- buffer that they are lent, and one where they are lent none. The contracts of the sign doors, of the plate's door and of that of
-- job sheets cite the crates below alone.
use Rattle.std.specs.Prelude.{◌≡◌, Bool, true, false, List, ℕ, ◌+◌, ℤ, length}
use Rattle.packing.specs.Reading.{numbers_in}
use Rattle.checks.specs.Answers.{Answer, with_served}
use Rattle.checks.specs.Rules.{FlatShapes, takes_flat}
use Rattle.predicate.specs.Rules.{VerdictRule}
use Rattle.listing.specs.Rules.{ListRule}
use Rattle.telling.specs.Numbers.{verdict_code, four_numbers, one_number}
use Rattle.telling.specs.Buffer.{too_short, Written}

-- What the door of a verdict call, which refuses flat shapes or takes them, promises: the four numbers are those of the one answer that is right.
pub record VerdictWritten (flats : FlatShapes) (n k m : ℕ) (first second : List ℤ) (before : List ℕ) (result : ℕ) (after : List ℕ) : Type 0 where
  pub told : Answer Bool
  pub right : VerdictRule flats n k m first second told
  pub written : Written (four_numbers (with_served verdict_code told)) before result after

-- One number that tells the one answer that is right of two triangles in space, nine numbers each.
pub record VerdictTold (first second : List ℤ) (result : ℕ) : Type 0 where
  pub told : Answer Bool
  pub right : VerdictRule takes_flat 3 3 3 first second told
  pub tells : result ≡ one_number (with_served verdict_code told)

-- What the door of bytes promises of its result: 103, refusal 3, where a slice isn't 36 bytes; otherwise what tells the answer of the two
-- triangles whose nine numbers the bytes are, low byte first.
pub data BytesTold (a b : List ℕ) (result : ℕ) : Type 0 where
  wrong_length : ((length a ≡ 36) × (length b ≡ 36) → ⊥) → result ≡ 100 + 3 → BytesTold a b result
  judged : length a ≡ 36 → length b ≡ 36 → VerdictTold (numbers_in 9 a) (numbers_in 9 b) result → BytesTold a b result

-- What the door of the listing promises of its two buffers, `buffer` for the pairs and `before` for the answer: where there is no room for an
-- answer nothing is done at all; otherwise the pairs are those of the one answer that is right, and so are the four numbers.
pub data ListWritten (a b : List ℤ) (buffer : List ℕ) (start : ℕ) (before : List ℕ) : (result : ℕ) (filled after : List ℕ) → Type 0 where
  undone : too_short before ≡ true → ListWritten a b buffer start before 1 buffer before
  done : {result : ℕ} {filled after : List ℕ} (told : Answer ℕ) → too_short before ≡ false → ListRule a b buffer start told filled →
      Written (four_numbers told) before result after → ListWritten a b buffer start before result filled after
