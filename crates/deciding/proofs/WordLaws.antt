-- Words of verdicts (specs/Words.antt): a word that is decided in stages, and words that are stored one after the other. Assumes nothing.
use mathlib.Core.Path.{◌≡◌, refl, sym, ap, ap₂, subst, ◌∙◌}
use mathlib.Core.Bool.{Bool, true, false}
use mathlib.Core.List.{List}
use mathlib.Core.Logic.{◌⊎◌, inl, inr}
use Prim.Native.Nat.{ℕ, zero, suc, ◌+◌, ◌*◌, ◌/◌, ◌^◌, ◌<◌, ◌≤◌}
use native.Mathlib.Omega.{arith}
use lib.IntN.{ℤ}
use lib.ListN.{length, get_or, set}
use lib.Pow.{pow_pos}
use lib.Seq.{get_or-set_same, get_or-set_other}
use Rattle.algebra.proofs.Copying.{written_hold}
use Rattle.shape.specs.Points.{points_at}
use Rattle.shape.specs.Sharing.{Share}
use Rattle.shape.proofs.Trading.{share_trade}
use Rattle.shape.proofs.VerdictLaws.{says_no}
use Rattle.kernel.specs.Meeting.{Judges}
use Rattle.kernel.specs.Standings.{Stood}
use Rattle.words.specs.Bits.{bit, ones}
use Rattle.words.specs.Spans.{first_of, span}
use Rattle.words.proofs.BitLaws.{bit_of_none, set_within, few_ones}
use Rattle.words.proofs.Filling.{both}
use Rattle.boxes.specs.Boxes.{Boxed, Prepared, Planned}
use Rattle.boxes.specs.Triangles.{triangles, nine}
use Rattle.sifting.specs.Tables.{CandidatesBelow}
use Rattle.sifting.proofs.EndLaws.{boxes_reach}
use Rattle.deciding.specs.declared.places.Row.{Row}
use Rattle.deciding.specs.declared.places.Pairs.{Pairs}
use Rattle.deciding.specs.declared.verdicts.Stances.{Stances}
use Rattle.deciding.specs.declared.deciding.Lists.{Lists}
use Rattle.deciding.specs.Places.{index_of, lined, turned, Meant, Planed, Posed}
use Rattle.deciding.specs.Lists.{Readied}
use Rattle.deciding.specs.Stages.{Clear, Marked, Parted, SortedAt, AllAlone, JudgedAt, Judged}
use Rattle.deciding.specs.Words.{MayMeet, MayMeetBelow, Verdicts, ones_below, VerdictsBelow, Decided}
use Rattle.deciding.proofs.StageLaws.{narrow_nine}
use Rattle.deciding.proofs.Rounds.{exclusive}

-- The places of one word are among those of another.
abbrev Among : (some asked : ℕ) → Type 0
Among some asked = (z : ℕ) → bit z some ≡ true → bit z asked ≡ true

-- ---- a word that is decided in stages
-- A list that is prepared has a triangle, and its normal, for each index that is below its number; and its plane, if it is planned.
meant : (row : Row) (z : ℕ) → Prepared row.bed.numbers.now row.bed.normals.now → index_of row z < triangles row.bed.numbers.now → Meant row z
meant row z prepared there = record {
  there = there;
  ready = prepared.sound.ready (index_of row z) there;
  room = omega (arith, there, prepared.room);
  normal = prepared.normal (index_of row z) there;
}

planed : (row : Row) (z : ℕ) → Planned row.bed.numbers.now row.bed.planes.now → index_of row z < triangles row.bed.numbers.now → Planed row z
planed row z planned there = record { room = omega (arith, there, planned.room); plane = planned.plane (index_of row z) there }

-- The pairs of word k of two lists.
abbrev pub pairs_of : Lists → ℕ → Pairs
pairs_of l k = record {
  narrow = l.narrow;
  first = record { bed = l.first; from = k / 16; step = 0 };
  second = record { bed = l.second; from = first_of k; step = 1 };
}

module _ (l : Lists) (k : ℕ) {candidates : ℕ} where
  -- Each candidate means a pair.
  pub word_posed : Readied l → k < triangles l.first.numbers.now * 16 → candidates < 2 ^ span (triangles l.second.numbers.now) (first_of k) →
      Posed (pairs_of l k) candidates
  word_posed readied inside small z set = record {
    first = meant (pairs_of l k).first z readied.first one;
    second = meant (pairs_of l k).second z readied.second two;
    planed = λ wide. (planed (pairs_of l k).first z (readied.planned wide).0 one, planed (pairs_of l k).second z (readied.planned wide).1 two);
    small = λ flag. (narrow_nine _ _ (readied.small flag).0, narrow_nine _ _ (readied.small flag).1);
  }
    where
      one : k / 16 + 0 * z < triangles l.first.numbers.now
      one = omega arith

      two : first_of k + 1 * z < triangles l.second.numbers.now
      two = omega (arith, set_within z (span (triangles l.second.numbers.now) (first_of k)) candidates small set)

  -- The verdicts on the candidates are those on all pairs of the word, since what is no candidate is apart.
  pub word_decided : {n word : ℕ} → MayMeet (nine (k / 16) l.first.numbers.now) l.second.numbers.now (first_of k) n candidates →
      Marked (JudgedAt (pairs_of l k)) 0 candidates word → Verdicts (nine (k / 16) l.first.numbers.now) l.second.numbers.now (first_of k) n word
  word_decided {n} {word} may marks = record { small = marks.small n (pow_pos n) may.small; right = right }
    where
      one : (z : ℕ) → lined (pairs_of l k).first z ≡ nine (k / 16) l.first.numbers.now
      one z = ap (λ (i : ℕ). nine i l.first.numbers.now) {x = k / 16 + 0 * z} {y = k / 16} (omega arith)

      two : (z : ℕ) → lined (pairs_of l k).second z ≡ nine (first_of k + z) l.second.numbers.now
      two z = ap (λ (i : ℕ). nine i l.second.numbers.now) {x = first_of k + 1 * z} {y = first_of k + z} (omega arith)

      right : (z : ℕ) → z < n → Judges 3 3 3 (nine (k / 16) l.first.numbers.now) (nine (first_of k + z) l.second.numbers.now) (bit z word)
      right z h = by_bit (bit z candidates) refl
        where
          by_bit : (b : Bool) → bit z candidates ≡ b → Judges 3 3 3 (nine (k / 16) l.first.numbers.now) (nine (first_of k + z) l.second.numbers.now) (bit z word)
          by_bit true e = rw (← (one z), ← (two z)) (marks.right z e).judges
          by_bit false e = rw (marks.stays z e, bit_of_none z) (says_no (λ shared. both (may.set z h shared) e))

-- ---- the stages of a word
-- The pairs may be turned.
pub posed_turned : {p : Pairs} {asked : ℕ} → Posed p asked → Posed (turned p) asked
posed_turned posed z set =
    let pair = posed z set in
    record {
      first = pair.second;
      second = pair.first;
      planed = λ wide. ((pair.planed wide).1, (pair.planed wide).0);
      small = λ flag. ((pair.small flag).1, (pair.small flag).0);
    }

pub parted_turned : (p : Pairs) {q : Pairs} {standings : List ℕ} {asked close kept other : ℕ} → q ≡ turned p →
    Parted (SortedAt q standings) asked close kept other → Parted (SortedAt (turned p) standings) asked close kept other
parted_turned p {q} {standings} {asked} {close} {kept} {other} = subst (λ (t : Pairs). Parted (SortedAt t standings) asked close kept other)

module _ {p : Pairs} {standings : List ℕ} {candidates kept other : ℕ} (first : Parted (SortedAt (turned p) standings) candidates 0 kept other) where
  -- What is left of the candidates were candidates.
  pub kept_candidates : Among kept candidates
  kept_candidates z set = by_bit (bit z candidates) refl
    where
      by_bit : (b : Bool) → bit z candidates ≡ b → bit z candidates ≡ true
      by_bit true e = e
      by_bit false e = both set (first.kept_none z e)

  other_candidates : Among other candidates
  other_candidates z set = by_bit (bit z candidates) refl
    where
      by_bit : (b : Bool) → bit z candidates ≡ b → bit z candidates ≡ true
      by_bit true e = e
      by_bit false e = both set (first.other_stays z e ∙ bit_of_none z)

  pub kept_clear : Clear kept other
  kept_clear z set = exclusive (first.right z (kept_candidates z set)) set

module _ {p : Pairs} {own standings : List ℕ} {candidates kept other alone close : ℕ} (first : Parted (SortedAt (turned p) standings) candidates 0 kept other)
    (second_stage : Parted (SortedAt p own) kept other alone close) where
  alone_kept : Among alone kept
  alone_kept z set = by_bit (bit z kept) refl
    where
      by_bit : (b : Bool) → bit z kept ≡ b → bit z kept ≡ true
      by_bit true e = e
      by_bit false e = both set (second_stage.kept_none z e)

  pub alone_candidates : Among alone candidates
  alone_candidates z set = kept_candidates first z (alone_kept z set)

  -- A close pair was found so by the first stage, or by the second.
  close_case : (z : ℕ) → bit z close ≡ true → (bit z kept ≡ true) ⊎ (bit z other ≡ true)
  close_case z set = by_bit (bit z kept) refl
    where
      by_bit : (b : Bool) → bit z kept ≡ b → (bit z kept ≡ true) ⊎ (bit z other ≡ true)
      by_bit true e = inl e
      by_bit false e = inr (sym (second_stage.other_stays z e) ∙ set)

  pub close_candidates : Among close candidates
  close_candidates z set = by_case (close_case z set)
    where
      by_case : (bit z kept ≡ true) ⊎ (bit z other ≡ true) → bit z candidates ≡ true
      by_case (inl e) = kept_candidates first z e
      by_case (inr e) = other_candidates first z e

  pub alone_clear : Clear alone close
  alone_clear z set = exclusive (second_stage.right z (alone_kept z set)) set

  -- The standings of the close pairs are known.
  pub all_stood : (z : ℕ) → bit z close ≡ true → Stood (lined p.first z) (lined p.second z) (get_or own z 0) (get_or standings z 0)
  all_stood z set = by_case (close_case z set)
    where
      by_case : (bit z kept ≡ true) ⊎ (bit z other ≡ true) → Stood (lined p.first z) (lined p.second z) (get_or own z 0) (get_or standings z 0)
      by_case (inl e) =
          let one = first.right z (kept_candidates first z e) in
          let two = second_stage.right z e in
          record {
            second = one.alone e;
            near_first = λ r0. omega (arith, one.near e);
            first = λ r1. two.within set;
            near_second = λ r1 s0. omega (arith, two.close set);
          }
      by_case (inr e) =
          let one = first.right z (other_candidates first z e) in
          record {
            second = one.within e;
            near_first = λ r0. omega (arith, one.close e);
            first = λ r1. absurd (r1 (one.close e));
            near_second = λ r1. absurd (r1 (one.close e));
          }

  -- What is neither alone nor close has no point in common with the triangle.
  apart : (z : ℕ) → bit z candidates ≡ true → bit z alone ≡ false → bit z close ≡ false →
      Share 3 (points_at 3 3 0 (lined p.first z)) (points_at 3 3 0 (lined p.second z)) → ⊥
  apart z met none-alone none-close shared = by_bits (bit z kept) (bit z other) refl refl
    where
      by_bits : (k o : Bool) → bit z kept ≡ k → bit z other ≡ o → ⊥
      by_bits true o e f = (second_stage.right z e).apart none-alone none-close shared
      by_bits false true e f = both f (sym (second_stage.other_stays z e) ∙ none-close)
      by_bits false false e f = (first.right z met).apart e f (share_trade shared)

  pub all_judged : {word : ℕ} → Judged p alone close word → Marked (JudgedAt p) 0 candidates word
  all_judged {word} judged = record {
    small = λ n none few.
        judged.small n (second_stage.kept_small n (first.kept_small n few))
        (second_stage.other_small n (first.other_small n (pow_pos n) few) (first.kept_small n few));
    right = right;
    stays = λ z clear. judged.none z (none_alone z clear) (none_close z clear) ∙ sym (bit_of_none z);
  }
    where
      right : (z : ℕ) → bit z candidates ≡ true → JudgedAt p z (bit z word)
      right z met = by_bits (bit z alone) (bit z close) refl refl
        where
          by_bits : (a c : Bool) → bit z alone ≡ a → bit z close ≡ c → JudgedAt p z (bit z word)
          by_bits true c e f = judged.right z (inl e)
          by_bits false true e f = judged.right z (inr f)
          by_bits false false e f = record { judges = rw (judged.none z e f) (says_no (apart z met e f)) }

      none_alone : (z : ℕ) → bit z candidates ≡ false → bit z alone ≡ false
      none_alone z clear = second_stage.kept_none z (first.kept_none z clear)

      none_close : (z : ℕ) → bit z candidates ≡ false → bit z close ≡ false
      none_close z clear = second_stage.other_stays z (first.kept_none z clear) ∙ first.other_stays z clear ∙ bit_of_none z

module _ {s : Stances} {candidates kept other alone close : ℕ} (first : Parted (SortedAt (turned s.pairs) s.second.now) candidates 0 kept other)
    (second_stage : Parted (SortedAt s.pairs s.first.now) kept other alone close) where
  pub all_alone : AllAlone s alone
  all_alone = record {
    stands_first = λ z set. (second_stage.right z (alone_kept first second_stage z set)).alone set;
    near_second = λ z set. (second_stage.right z (alone_kept first second_stage z set)).near set;
    stands_second = λ z set. (first.right z (alone_candidates first second_stage z set)).alone (alone_kept first second_stage z set);
    near_first = λ z set. (first.right z (alone_candidates first second_stage z set)).near (alone_kept first second_stage z set);
  }

-- A word without candidates.
pub none_decided : {corners second : List ℤ} {from n candidates : ℕ} → MayMeet corners second from n candidates → candidates ≡ 0 →
    Verdicts corners second from n 0
none_decided {corners} {second} {from} {n} {candidates} may none = record {
  small = pow_pos n;
  right = λ z h. rw (bit_of_none z) (says_no (λ shared. both (may.set z h shared) (rw none (bit_of_none z))));
}

-- ---- candidates by boxes
-- Triangles that have a point in common have boxes that reach each other.
pub may_meet : (a b bounds boxes : List ℤ) (words : List ℕ) → Boxed a bounds → Boxed b boxes →
    CandidatesBelow bounds boxes (triangles b) words (triangles a * 16) → MayMeetBelow a b words (triangles a * 16)
may_meet a b bounds boxes words first second sifted k h = record { small = (sifted k h).small; set = set }
  where
    set : (t : ℕ) → t < span (triangles b) (first_of k) →
        Share 3 (points_at 3 3 0 (nine (k / 16) a)) (points_at 3 3 0 (nine (first_of k + t) b)) → bit t (get_or words k 0) ≡ true
    set t inside shared =
        (sifted k h).set t inside
        (rw (first (k / 16) (omega arith), second (first_of k + t) (omega arith)) (boxes_reach (nine (k / 16) a) (nine (first_of k + t) b) shared))

-- ---- words that are stored one after the other
-- Word k is stored: the words before it are as they were.
module _ (m : ℕ) (words : List ℕ) (k word : ℕ) where
  before_stored : (n : ℕ) → n < k → get_or (set words k word) n 0 ≡ get_or words n 0
  before_stored n h = get_or-set_other words k n word 0 (λ e. omega arith)

  verdicts_stored : (a b : List ℤ) → k < length words → VerdictsBelow a b words k →
      Verdicts (nine (k / 16) a) b (first_of k) (span (triangles b) (first_of k)) word → VerdictsBelow a b (set words k word) (k + 1)
  verdicts_stored a b inside earlier this =
      written_hold k words word 0 (λ n w. Verdicts (nine (n / 16) a) b (first_of n) (span (triangles b) (first_of n)) w) inside this earlier

  ones_before : (n : ℕ) → n ≤ k → ones_below m (set words k word) n ≡ ones_below m words n
  ones_before zero h = refl
  ones_before (suc n) h =
      ap₂ ◌+◌ (ones_before n (omega arith)) (ap (ones (span m (first_of n))) (before_stored n h))

  ones_stored : k < length words → ones_below m (set words k word) (k + 1) ≡ ones_below m words k + ones (span m (first_of k)) word
  ones_stored inside =
      ap (ones_below m (set words k word)) {x = k + 1} {y = suc k} (omega arith)
      ∙ ap₂ ◌+◌ (ones_before k (omega arith)) (ap (ones (span m (first_of k))) (get_or-set_same words k word 0 inside))

-- So one word more is decided.
pub decided_on : {a b : List ℤ} {words : List ℕ} {k found word more : ℕ} → k < length words → Decided a b words k found →
    Verdicts (nine (k / 16) a) b (first_of k) (span (triangles b) (first_of k)) word → more ≡ ones (span (triangles b) (first_of k)) word →
    Decided a b (set words k word) (k + 1) (found + more)
decided_on {a} {b} {words} {k} {found} {word} {more} inside so_far this count = record {
  right = verdicts_stored (triangles b) words k word a b inside so_far.right this;
  count = ap₂ ◌+◌ so_far.count count ∙ sym (ones_stored (triangles b) words k word inside);
}

-- There are at most 64 in each.
pub few_below : (m : ℕ) (words : List ℕ) (k : ℕ) → ones_below m words k ≤ 64 * k
few_below m words zero = omega arith
few_below m words (suc k) = omega (arith, few_below m words k, few_ones (span m (first_of k)) (get_or words k 0))
