-- Tables of words (specs/Tables.antt): a word that is built from its highest bit down, and what a row for each end leaves. Assumes nothing.
use mathlib.Core.Path.{◌≡◌, refl, sym, ap, subst, ◌∙◌}
use mathlib.Core.Bool.{Bool, true, false, cond}
use mathlib.Core.Logic.{inl, inr}
use mathlib.Core.List.{List}
use Prim.Native.Nat.{ℕ, zero, suc, ◌+◌, ◌-◌, ◌*◌, ◌/◌, ◌<◌, ◌≤◌}
use native.Mathlib.Omega.{arith}
use borrow.Author.Tests.{ltb-true, ltb-false}
use borrow.Rule.Slice.PartMut.{put_mid}
use lib.Bits.{bit_and}
use lib.Dec.{ltb}
use lib.IntN.{ℤ}
use lib.ListN.{length, get_or, drop}
use lib.Seq.{get_or-take, get_or-drop}
use lib.Pow.{pow_pos}
use mir.Val.{bool_byte}
use Rattle.algebra.proofs.Order.{≤ℤ-<ℤ-trans}
use Rattle.algebra.proofs.Parts.{put_here, put_before}
use Rattle.words.specs.Bits.{bit}
use Rattle.words.specs.Spans.{first_of, span}
use Rattle.words.proofs.BitLaws.{lowest_bit, higher_bit, and_bit_exact, bit_of_all}
use Rattle.boxes.specs.Boxes.{six}
use Rattle.sifting.specs.Ends.{reach_of, Reaches}
use Rattle.sifting.specs.Tables.{Table, RowFor, RowsFor, Joined, Candidates, CandidatesBelow}

-- ---- a word with one bit more, below those that it had
-- What is said of each bit, and of the box that it stands for, holds of the new one too.
pub one_more_bit : (Said : ℕ → Bool → Type 0) (from n word : ℕ) (v : Bool) → ((t : ℕ) → t < n → Said (suc from + t) (bit t word)) → Said from v →
    (t : ℕ) → t < suc n → Said (from + t) (bit t (2 * word + bool_byte v))
one_more_bit Said from n word v later first zero h =
    let start : from + 0 ≡ from = omega arith in
    rw (start, lowest_bit word v) first
one_more_bit Said from n word v later first (suc t) h =
    let next : from + suc t ≡ suc from + t = omega arith in
    rw (next, higher_bit t word v) (later t (omega arith))

-- ---- bits that two words have
pub both_set : (t a b : ℕ) → bit t a ≡ true → bit t b ≡ true → bit t (bit_and a b) ≡ true
both_set t a b p q = and_bit_exact t a b ∙ (λ i. cond (p i) (q i) false)

-- ---- what a row for each end leaves
module _ {boxes marks box : List ℤ} {m : ℕ} {table rows : List ℕ} (right : Table boxes marks m table) (served : RowsFor marks box rows) where
  -- Bit t of word w is set in the last row and in each of the six, where the box reaches box w * 64 + t.
  module _ (w t : ℕ) (few : w < 16) (h : t < span m (w * 64)) where
    set_in_last : bit t (get_or table (1536 + w) 0) ≡ true
    set_in_last = rw (right.last w few) (bit_of_all t (span m (w * 64)) h)

    set_in_row : Reaches box (six (w * 64 + t) boxes) → (e : ℕ) → e < 6 → bit t (get_or table (16 * get_or rows e 0 + w) 0) ≡ true
    set_in_row reaches e six-ends = by_row (served.each e six-ends)
      where
        row : ℕ
        row = get_or rows e 0

        by_row : RowFor marks e (reach_of e box) row → bit t (get_or table (16 * row + w) 0) ≡ true
        by_row (inl last) =
            let place : 16 * row + w ≡ 1536 + w = omega arith in
            rw place set_in_last
        by_row (inr (inside, of_end, below)) =
            let k : ℕ = 16 * row + w in
            let end : k / 256 ≡ e = omega arith in
            let mark : k / 16 ≡ row = omega arith in
            let first : first_of k ≡ w * 64 = omega arith in
            let sifts = right.rows k (omega arith) in
            (rw (end, mark, first) at sifts) t h (≤ℤ-<ℤ-trans (reaches e six-ends) below)

  -- So the words that the rows leave have a bit for every box that the box reaches.
  pub joined_candidates : {w word : ℕ} → w < 16 → Joined table rows w word → Candidates box boxes (w * 64) (span m (w * 64)) word
  joined_candidates {w} few joined = record {
    small = omega (arith, joined.most, right.last w few, pow_pos (span m (w * 64)));
    set = λ t h reaches. joined.set t (set_in_last w t few h) (set_in_row w t few h reaches);
  }

-- ---- words that are written over a part of others
module _ (p n k : ℕ) (words new : List ℕ) (inside : p ≤ length words) where
  pub here_put : (width : ℕ) → length new ≡ width → k < width → get_or (put_mid p n words new) (p + k) 0 ≡ get_or new k 0
  here_put width long h =
      let after = put_mid p n words new in
      sym (get_or-take width (drop p after) k 0 h ∙ get_or-drop p after k 0) ∙ ap (λ (l : List ℕ). get_or l k 0) (put_here p width n words new inside long)

  pub before_put : k < p → get_or (put_mid p n words new) k 0 ≡ get_or words k 0
  before_put h =
      sym (get_or-take p (put_mid p n words new) k 0 h)
      ∙ ap (λ (l : List ℕ). get_or l k 0) (put_before 0 p p n words new (omega arith) inside)
      ∙ get_or-take p words k 0 h

-- ---- the words of one box more
pub candidates_on : (bounds boxes : List ℤ) (m i : ℕ) (words new : List ℕ) → i * 16 + 16 ≤ length words → length new ≡ 16 →
    CandidatesBelow bounds boxes m words (i * 16) →
    ((w : ℕ) → w < 16 → Candidates (six i bounds) boxes (w * 64) (span m (w * 64)) (get_or new w 0)) →
    CandidatesBelow bounds boxes m (put_mid (i * 16) (i * 16 + 16 - i * 16) words new) ((i + 1) * 16)
candidates_on bounds boxes m i words new room long earlier row k h = by_test (ltb k (i * 16)) refl
  where
    after : List ℕ
    after = put_mid (i * 16) (i * 16 + 16 - i * 16) words new

    Right : ℕ → Type 0
    Right k = Candidates (six (k / 16) bounds) boxes (first_of k) (span m (first_of k)) (get_or after k 0)

    in_row : (w : ℕ) → w < 16 → Right (i * 16 + w)
    in_row w few =
        let of_box : (i * 16 + w) / 16 ≡ i = omega arith in
        let first : first_of (i * 16 + w) ≡ w * 64 = omega arith in
        let written = here_put (i * 16) (i * 16 + 16 - i * 16) w words new (omega arith) 16 long few in
        rw (of_box, first, written) (row w few)

    by_test : (t : Bool) → ltb k (i * 16) ≡ t → Right k
    by_test true e =
        let before = ltb-true k (i * 16) e in
        let stays = before_put (i * 16) (i * 16 + 16 - i * 16) k words new (omega arith) before in
        rw stays (earlier k before)
    by_test false e =
        let from = ltb-false k (i * 16) e in
        subst Right {x = i * 16 + (k - i * 16)} {y = k} (omega arith) (in_row (k - i * 16) (omega arith))
