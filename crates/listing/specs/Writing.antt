-- The vocabulary of the pairs that words of verdicts tell, and of the buffer that they are written to.
use Rattle.std.specs.Prelude.{◌≡◌, List, [], ◌++◌, ℕ, zero, suc, ◌-◌, ◌/◌, length, get_or, drop}
use Rattle.checks.specs.Answers.{Answer, served, ◌then◌, with_served}
use Rattle.words.specs.Bits.{bit}
use Rattle.words.specs.Spans.{first_of}
use Rattle.listing.specs.Pairs.{Pair, gathered, pair_if}
use Rattle.listing.specs.Rules.{room_for, afterwards}

-- The pairs of i with from, from + 1, .. that the n lowest bits of a word tell.
unfoldable pub word_pairs : ℕ → ℕ → ℕ → ℕ → List Pair
word_pairs i from zero word = []
word_pairs i from (suc n) word = pair_if (bit 0 word) i from ++ word_pairs i (suc from) n (word / 2)

-- The numbers were written to the front of a buffer, as many as `count` says, and all after them stay.
pub record Wrote (numbers before : List ℕ) (count : ℕ) (after : List ℕ) : Type 0 where
  pub many : count ≡ length numbers
  pub left : after ≡ numbers ++ drop count before

-- ---- all words of two lists
-- The pairs that word k tells.
abbrev pub told_by : List ℕ → ℕ → List Pair
told_by words k = word_pairs (k / 16) (first_of k) 64 (get_or words k 0)

-- The outcome of a listing whose pairs are those that the first n words tell.
abbrev pub listed : List ℕ → ℕ → List ℕ → ℕ → Answer (List Pair)
listed words n buffer start =
    let pairs = gathered (told_by words) 0 n in
    room_for (length pairs) (length buffer - start) then served pairs

-- What becomes of the pairs that the first n words tell, and of the buffer: they are written from the start on, or there is no room for them.
pub record Found (words : List ℕ) (n : ℕ) (buffer : List ℕ) (start : ℕ) (answer : Answer ℕ) (after : List ℕ) : Type 0 where
  pub told : answer ≡ with_served length (listed words n buffer start)
  pub left : after ≡ afterwards buffer start (listed words n buffer start)
