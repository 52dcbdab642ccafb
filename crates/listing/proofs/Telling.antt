-- What the words of verdicts tell (specs/Writing.antt): the pairs of a word, and that all words together tell the pairs that meet.
-- Assumes nothing.
use mathlib.Core.Path.{◌≡◌, refl, sym, ap, ap₂, ◌∙◌}
use mathlib.Core.Bool.{Bool, true, false}
use mathlib.Core.List.{List, [], ◌∷◌, ◌++◌}
use Prim.Native.Nat.{ℕ, zero, suc, ◌+◌, ◌-◌, ◌*◌, ◌/◌, ◌%◌, ◌^◌, ◌<◌, ◌≤◌, min}
use native.Mathlib.Omega.{arith}
use borrow.Author.Tests.{eqb-true, eqb-false, ltb-true, ltb-false}
use lib.Dec.{eqb, ltb}
use lib.IntN.{ℤ}
use lib.ListN.{length, length-append, get_or}
use Rattle.kernel.specs.Meeting.{Judges}
use Rattle.boxes.specs.Triangles.{triangles, nine}
use Rattle.words.specs.Bits.{bit, ones, Lowest, lowest_here, lowest_above}
use Rattle.words.specs.Spans.{first_of, span}
use Rattle.words.proofs.BitLaws.{few_ones}
use Rattle.deciding.specs.Words.{ones_below, VerdictsBelow}
use Rattle.listing.specs.Pairs.{Pair, gathered, pair_if, pairs_of}
use Rattle.listing.specs.Writing.{word_pairs, told_by}
use Rattle.listing.proofs.Gathering.{gathered_same, gathered_split, gathered_last, gathered_blocks}

-- ---- the pairs of one word
-- The first is that of the lowest bit that is set, and the word without that bit tells the others.
pub next_pair : {z word rest : ℕ} → Lowest z word rest → (i from n : ℕ) → z < n → word_pairs i from n word ≡ (i, from + z) ∷ word_pairs i from n rest
unfolding word_pairs
next_pair low i from zero h = absurd (omega arith)
next_pair (lowest_here set gone same) i from (suc n) h =
    let start : from + 0 ≡ from = omega arith in
    rw (set, gone, same, start)
next_pair {word = word} {rest = rest} (lowest_above {z = z} none gone low) i from (suc n) h =
    let next : from + suc z ≡ suc from + z = omega arith in
    rw (none, gone, next) (next_pair {z = z} {word = word / 2} {rest = rest / 2} low i (suc from) n (omega arith))

-- A word of 0 tells none.
pub no_more : (i from n : ℕ) → word_pairs i from n 0 ≡ []
unfolding word_pairs
no_more i from zero = refl
no_more i from (suc n) = no_more i (suc from) n

-- The bits past the n lowest tell none where the word has no more than n bits.
none_past : (i from n all word : ℕ) → word < 2 ^ n → n ≤ all → word_pairs i from all word ≡ word_pairs i from n word
unfolding word_pairs
none_past i from zero all word small h =
    let none : word ≡ 0 = omega arith in
    rw none (no_more i from all)
none_past i from (suc n) zero word small h = absurd (omega arith)
none_past i from (suc n) (suc all) word small h =
    ap (λ (r : List Pair). pair_if (bit 0 word) i from ++ r) (none_past i (suc from) n all (word / 2) (omega arith) (omega arith))

-- There are as many as bits that are set.
length_word_pairs : (i from n word : ℕ) → length (word_pairs i from n word) ≡ ones n word
unfolding word_pairs
length_word_pairs i from zero word = refl
length_word_pairs i from (suc n) word =
    length-append (pair_if (bit 0 word) i from) (word_pairs i (suc from) n (word / 2))
    ∙ ap₂ ◌+◌ (by_test (eqb (word % 2) 1) refl) (length_word_pairs i (suc from) n (word / 2))
  where
    by_test : (t : Bool) → eqb (word % 2) 1 ≡ t → length (pair_if t i from) ≡ word % 2
    by_test true e = sym (eqb-true (word % 2) 1 e)
    by_test false e =
        let none : (word % 2 ≡ 1 → ⊥) = eqb-false (word % 2) 1 e in
        omega arith

-- So there are n at the most.
few_word_pairs : (i from n word : ℕ) → length (word_pairs i from n word) ≤ n
few_word_pairs i from n word = omega (arith, length_word_pairs i from n word, few_ones n word)

-- They are gathered by its bits.
word_pairs_law : (i from n word : ℕ) → word_pairs i from n word ≡ gathered (λ j. pair_if (bit (j - from) word) i j) from n
unfolding word_pairs
word_pairs_law i from zero word = refl
word_pairs_law i from (suc n) word =
    ap₂ ◌++◌ (ap (λ (t : ℕ). pair_if (bit t word) i from) start)
    (word_pairs_law i (suc from) n (word / 2) ∙ gathered_same _ _ (suc from) n each)
  where
    start : 0 ≡ from - from
    start = omega arith

    each : (t : ℕ) → t < n →
        pair_if (bit (suc from + t - suc from) (word / 2)) i (suc from + t) ≡ pair_if (bit (suc from + t - from) word) i (suc from + t)
    each t h =
        let below : suc from + t - suc from ≡ t = omega arith in
        let above : suc from + t - from ≡ suc t = omega arith in
        rw (below, above)

-- ---- the pairs of all words
-- Every one of the first n words has no more bits than there are of m triangles for it to tell of.
abbrev pub Small : ℕ → List ℕ → ℕ → Type 0
Small m words n = (k : ℕ) → k < n → get_or words k 0 < 2 ^ span m (first_of k)

-- What word k tells of m triangles: all that it tells, where the words are small.
abbrev told_of : ℕ → List ℕ → ℕ → List Pair
told_of m words k = word_pairs (k / 16) (first_of k) (span m (first_of k)) (get_or words k 0)

same_told : (m : ℕ) (words : List ℕ) (n : ℕ) → Small m words n → gathered (told_by words) 0 n ≡ gathered (told_of m words) 0 n
same_told m words n small = gathered_same _ _ 0 n (λ t h. each (0 + t) (omega arith))
  where
    each : (k : ℕ) → k < n → told_by words k ≡ told_of m words k
    each k h = none_past (k / 16) (first_of k) (span m (first_of k)) 64 (get_or words k 0) (small k h) (omega arith)

-- How many pairs the words tell: as many as bits that are set, and 64 a word at the most.
length_of : (m : ℕ) (words : List ℕ) (k : ℕ) → length (gathered (told_of m words) 0 k) ≡ ones_below m words k
length_of m words zero = refl
length_of m words (suc k) =
    ap length (gathered_last (told_of m words) 0 k)
    ∙ length-append (gathered (told_of m words) 0 k) (told_of m words (0 + k))
    ∙ ap₂ ◌+◌ (length_of m words k)
    (ap (λ (w : ℕ). length (told_of m words w)) start ∙ length_word_pairs (k / 16) (first_of k) (span m (first_of k)) (get_or words k 0))
  where
    start : 0 + k ≡ k
    start = omega arith

pub length_told : (m : ℕ) (words : List ℕ) (k : ℕ) → Small m words k → length (gathered (told_by words) 0 k) ≡ ones_below m words k
length_told m words k small = ap length (same_told m words k small) ∙ length_of m words k

pub few_told : (words : List ℕ) (k : ℕ) → length (gathered (told_by words) 0 k) ≤ 64 * k
few_told words zero = omega arith
few_told words (suc k) =
    let total = ap length (gathered_last (told_by words) 0 k) ∙ length-append (gathered (told_by words) 0 k) (told_by words (0 + k)) in
    let last = few_word_pairs ((0 + k) / 16) (first_of (0 + k)) 64 (get_or words (0 + k) 0) in
    omega (arith, total, last, few_told words k)

-- The verdict on triangle i of the first list and triangle j of the second.
abbrev pub kept : List ℕ → ℕ → ℕ → Bool
kept words i j = bit (j % 64) (get_or words (i * 16 + j / 64) 0)

module _ (words : List ℕ) (m i : ℕ) where
  -- The pair of i and j, where it is kept.
  abbrev here : ℕ → List Pair
  here j = pair_if (kept words i j) i j

  -- What word w of triangle i tells.
  word_row : (w : ℕ) → w < 16 → told_of m words (i * 16 + w) ≡ gathered here (w * 64) (span m (w * 64))
  word_row w few =
      let row : (i * 16 + w) / 16 ≡ i = omega arith in
      let first : first_of (i * 16 + w) ≡ w * 64 = omega arith in
      let same : told_of m words (i * 16 + w) ≡ word_pairs i (w * 64) (span m (w * 64)) word = rw (row, first) in
      same ∙ word_pairs_law i (w * 64) (span m (w * 64)) word ∙ gathered_same _ _ (w * 64) (span m (w * 64)) each
    where
      word : ℕ
      word = get_or words (i * 16 + w) 0

      each : (t : ℕ) → t < span m (w * 64) → pair_if (bit (w * 64 + t - w * 64) word) i (w * 64 + t) ≡ here (w * 64 + t)
      each t h =
          let below : w * 64 + t - w * 64 ≡ t = omega arith in
          let rest : (w * 64 + t) % 64 ≡ t = omega arith in
          let whole : (w * 64 + t) / 64 ≡ w = omega arith in
          rw (below, rest, whole)

  -- What its first w words tell: all on the triangles before 64 w.
  first_words : (w : ℕ) → w ≤ 16 → gathered (λ v. told_of m words (i * 16 + v)) 0 w ≡ gathered here 0 (min (w * 64) m)
  first_words zero few =
      let none : min (0 * 64) m ≡ 0 = omega arith in
      rw none
  first_words (suc w) few =
      let last : 0 + w ≡ w = omega arith in
      let all : min (w * 64) m + span m (w * 64) ≡ min (suc w * 64) m = omega arith in
      gathered_last (λ v. told_of m words (i * 16 + v)) 0 w
      ∙ ap₂ ◌++◌ (first_words w (omega arith))
      (ap (λ (v : ℕ). told_of m words (i * 16 + v)) last ∙ word_row w few ∙ by_test (ltb (w * 64) m) refl)
      ∙ sym (gathered_split here 0 (min (w * 64) m) (span m (w * 64)))
      ∙ ap (gathered here 0) all
    where
      -- The word begins where the words before it end, or tells nothing.
      by_test : (t : Bool) → ltb (w * 64) m ≡ t →
          gathered here (w * 64) (span m (w * 64)) ≡ gathered here (0 + min (w * 64) m) (span m (w * 64))
      by_test true e =
          let inside = ltb-true (w * 64) m e in
          let start : w * 64 ≡ 0 + min (w * 64) m = omega arith in
          ap (λ (from : ℕ). gathered here from (span m (w * 64))) start
      by_test false e =
          let outside = ltb-false (w * 64) m e in
          let none : span m (w * 64) ≡ 0 = omega arith in
          rw none

  -- What its sixteen words tell, of at most 1,024 triangles.
  all_words : m ≤ 1024 → gathered (λ v. told_of m words (i * 16 + v)) 0 16 ≡ gathered here 0 m
  all_words few =
      let all : min (16 * 64) m ≡ m = omega arith in
      first_words 16 (omega arith) ∙ ap (gathered here 0) all

pub all_told : (words : List ℕ) (n m : ℕ) → m ≤ 1024 → Small m words (n * 16) → gathered (told_by words) 0 (n * 16) ≡ pairs_of (kept words) n m
all_told words n m few small =
    same_told m words (n * 16) small
    ∙ gathered_blocks (told_of m words) n 16
    ∙ gathered_same _ _ 0 n (λ t h. all_words words m (0 + t) few)

-- The verdicts that are kept are right where those of all words are.
pub kept_right : (a b : List ℤ) (words : List ℕ) → triangles b ≤ 1024 → VerdictsBelow a b words (triangles a * 16) →
    (i j : ℕ) → i < triangles a → j < triangles b → Judges 3 3 3 (nine i a) (nine j b) (kept words i j)
kept_right a b words few right i j p q =
    let k : ℕ = i * 16 + j / 64 in
    let row : k / 16 ≡ i = omega arith in
    let place : first_of k + j % 64 ≡ j = omega arith in
    let verdict = (right k (omega arith)).right (j % 64) (omega arith) in
    rw (row, place) at verdict
