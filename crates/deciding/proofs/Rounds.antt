-- From what the loops leave at the places of a word to what a stage promises of them (specs/Stages.antt). Assumes nothing.
use mathlib.Core.Path.{◌≡◌, refl, sym, ap, subst, ◌∙◌}
use mathlib.Core.Bool.{Bool, true, false, ◌&&◌, ◌||◌}
use mathlib.Core.List.{List}
use mathlib.Core.Logic.{◌⊎◌, inl, inr}
use Prim.Native.Nat.{ℕ, ◌<◌, ◌≤◌}
use native.Mathlib.Omega.{arith}
use borrow.Author.Tests.{eqb-true, eqb-false, ltb-true, ltb-false, ne_eqb}
use lib.Dec.{ltb}
use lib.ListN.{get_or}
use lib.Pow.{pow_pos}
use Rattle.kernel.specs.Standings.{Stood}
use Rattle.kernel.proofs.Stages.{judged_crossing, beside_apart}
use Rattle.exact.proofs.Branches.{both_true}
use Rattle.words.specs.Bits.{bit}
use Rattle.words.proofs.BitLaws.{bit_of_none}
use Rattle.words.proofs.Filling.{both}
use Rattle.deciding.specs.declared.places.Pairs.{Pairs}
use Rattle.deciding.specs.declared.verdicts.Stances.{Stances}
use Rattle.deciding.specs.Places.{lined, Paired}
use Rattle.deciding.specs.Stages.{Clear, StandsAt, SeemsAt, Told, Marked, seems_alone, is_open, is_alone, is_within, Parted, SortedAt, Numbering, AllNumbered, says_meeting, is_untold, Crossing, CrossedAt, AllAlone, AllStood, JudgedAt, Judged}

-- Where a bit is set that was not, its place was asked.
pub asked_for : {start asked word : ℕ} {Right : ℕ → Bool → Type 0} → Marked Right start asked word → (z : ℕ) → bit z word ≡ true → bit z start ≡ false →
    bit z asked ≡ true
asked_for {start} {asked} {word} marks z set none = by_bit (bit z asked) refl
  where
    by_bit : (b : Bool) → bit z asked ≡ b → bit z asked ≡ true
    by_bit true e = e
    by_bit false e = both set (marks.stays z e ∙ none)

-- ---- what the numbers of standings tell
either_false : (a b : Bool) → a || b ≡ false → (a ≡ false) × (b ≡ false)
either_false true b e = both refl e
either_false false b e = (refl, e)

either_true : (a b : Bool) → a || b ≡ true → (a ≡ true) ⊎ (b ≡ true)
either_true true b e = inl refl
either_true false b e = inr e

not_alone : (s : ℕ) → s < 16 → ltb 1 s && ltb s 16 ≡ false → s ≤ 1
not_alone s few e = by_test (ltb 1 s) refl
  where
    by_test : (a : Bool) → ltb 1 s ≡ a → s ≤ 1
    by_test true more =
        let none : ltb s 16 ≡ false = subst (λ (a : Bool). a && ltb s 16 ≡ false) more e in
        absurd (omega (arith, ltb-false s 16 none))
    by_test false less = omega (arith, ltb-false 1 s less)

module _ {p : Pairs} {standings : List ℕ} {z : ℕ} {kept other : Bool} where
  -- The number is exact.
  pub sorted_exactly : StandsAt p z (get_or standings z 0) → kept ≡ is_alone (get_or standings z 0) → other ≡ is_within (get_or standings z 0) →
      SortedAt p standings z kept other
  sorted_exactly at k o = record {
    alone = λ set. at.stands;
    near = λ set. ltb-true 1 (get_or standings z 0) (sym k ∙ set);
    within = λ set. at.stands;
    close = λ set. eqb-true (get_or standings z 0) 1 (sym o ∙ set);
    apart = λ none-k none-o. beside_apart (lined p.first z) (lined p.second z) at.stands
        (omega (arith, ltb-false 1 (get_or standings z 0) (sym k ∙ none-k), eqb-false (get_or standings z 0) 1 (sym o ∙ none-o)));
  }

  -- The number is that of the estimate, which can tell.
  pub sorted_seeming : SeemsAt p z (get_or standings z 0) → is_open (get_or standings z 0) ≡ false → kept ≡ seems_alone (get_or standings z 0) → other ≡ false →
      SortedAt p standings z kept other
  sorted_seeming at told k o =
      let not_open = either_false _ _ told in
      let told_few = ltb-false _ (get_or standings z 0) not_open.1 in
      let few : get_or standings z 0 < 16 = omega (arith, told_few) in
      record {
        alone = λ set. at.seems few;
        near = λ set. ltb-true 1 (get_or standings z 0) (both_true (ltb 1 (get_or standings z 0)) (ltb (get_or standings z 0) 16) (sym k ∙ set)).0;
        within = λ set. both set o;
        close = λ set. both set o;
        apart = λ none-k none-o. beside_apart (lined p.first z) (lined p.second z) (at.seems few)
            (omega (arith, not_alone (get_or standings z 0) few (sym k ∙ none-k), eqb-false (get_or standings z 0) 1 not_open.0));
      }

-- No pair is both.
pub exclusive : {p : Pairs} {standings : List ℕ} {z : ℕ} {kept other : Bool} →
    SortedAt p standings z kept other → kept ≡ true → other ≡ false
exclusive {other = false} sorted set = refl
exclusive {other = true} sorted set = absurd (omega (arith, sorted.near set, sorted.close refl))

-- ---- a stage by the exact numbers alone
pub parted_exactly : {p : Pairs} {asked close kept other : ℕ} {before after : List ℕ} →
    Told (StandsAt p) asked before after → Marked (λ z b. b ≡ is_alone (get_or after z 0)) 0 asked kept →
    Marked (λ z b. b ≡ is_within (get_or after z 0)) close asked other → Parted (SortedAt p after) asked close kept other
parted_exactly told alone within = record {
  kept_small = λ n few. alone.small n (pow_pos n) few;
  kept_none = λ z none. alone.stays z none ∙ bit_of_none z;
  other_small = within.small;
  other_stays = within.stays;
  right = λ z set. sorted_exactly (told.says z set) (alone.right z set) (within.right z set);
}

-- ---- a stage by the estimate, and by the exact numbers where it can't tell
module _ {p : Pairs} {asked close seen seemed : ℕ} {before between : List ℕ}
    (told : Told (SeemsAt p) asked before between)
    (seems : Marked (λ z b. b ≡ seems_alone (get_or between z 0)) 0 asked seen)
    (opens : Marked (λ z b. b ≡ is_open (get_or between z 0)) 0 asked seemed)
    (clear : Clear asked close) where
  -- What the estimate can't tell was asked, and has no bit yet.
  pub open_among : (z : ℕ) → bit z seemed ≡ true → bit z asked ≡ true
  open_among z set = asked_for opens z set (bit_of_none z)

  pub open_clear : Clear seemed seen
  open_clear z set = by_bit (bit z seen) refl
    where
      by_bit : (b : Bool) → bit z seen ≡ b → bit z seen ≡ false
      by_bit false e = e
      by_bit true e =
          let here = open_among z set in
          let alone = both_true (ltb 1 (get_or between z 0)) (ltb (get_or between z 0) 16) (sym (seems.right z here) ∙ e) in
          let far : is_open (get_or between z 0) ≡ true = sym (opens.right z here) ∙ set in
          absurd (no (get_or between z 0) (ltb-true 1 (get_or between z 0) alone.0) (ltb-true (get_or between z 0) 16 alone.1) far)
        where
          no : (s : ℕ) → 1 < s → s < 16 → is_open s ≡ true → ⊥
          no s more few far = elim (either_true _ _ far) [ inl e ↦ omega (arith, eqb-true s 1 e) | inr f ↦ omega (arith, ltb-true _ s f) ]

  pub parted_both : {kept other : ℕ} {after : List ℕ} → Told (StandsAt p) seemed between after → Marked (λ z b. b ≡ is_alone (get_or after z 0)) seen seemed kept →
      Marked (λ z b. b ≡ is_within (get_or after z 0)) close seemed other → Parted (SortedAt p after) asked close kept other
  parted_both {kept} {other} {after} exactly alone within = record {
    kept_small = λ n few. alone.small n (seems.small n (pow_pos n) few) (opens.small n (pow_pos n) few);
    kept_none = λ z none. alone.stays z (not_open z none) ∙ seems.stays z none ∙ bit_of_none z;
    other_small = λ n small few. within.small n small (opens.small n (pow_pos n) few);
    other_stays = λ z none. within.stays z (not_open z none);
    right = right;
  }
    where
      not_open : (z : ℕ) → bit z asked ≡ false → bit z seemed ≡ false
      not_open z none = opens.stays z none ∙ bit_of_none z

      right : (z : ℕ) → bit z asked ≡ true → SortedAt p after z (bit z kept) (bit z other)
      right z set = by_bit (bit z seemed) refl
        where
          by_bit : (b : Bool) → bit z seemed ≡ b → SortedAt p after z (bit z kept) (bit z other)
          by_bit true e = sorted_exactly (exactly.says z e) (alone.right z e) (within.right z e)
          by_bit false e =
              let same = exactly.stays z e in
              sorted_seeming (subst (SeemsAt p z) (sym same) (told.says z set))
              (ap is_open same ∙ sym (opens.right z set) ∙ e)
              (alone.stays z e ∙ seems.right z set ∙ ap seems_alone (sym same))
              (within.stays z e ∙ clear z set)

-- ---- the verdicts
-- What the estimate of the last signs says, as two bits.
pub parted_crossing : {s : Stances} {asked close kept other : ℕ} {before after : List ℕ} → Told (Crossing s) asked before after →
    Marked (λ z b. b ≡ says_meeting (get_or after z 0)) 0 asked kept → Marked (λ z b. b ≡ is_untold (get_or after z 0)) close asked other →
    Parted (CrossedAt s) asked close kept other
parted_crossing {s} {after = after} told meets not_told = record {
  kept_small = λ n few. meets.small n (pow_pos n) few;
  kept_none = λ z none. meets.stays z none ∙ bit_of_none z;
  other_small = not_told.small;
  other_stays = not_told.stays;
  right = λ z set.
      let v = get_or after z 0 in
      record {
        told = λ few. meets.right z set ∙ sym ((told.says z set).seems (omega (arith, ltb-false 1 v (sym (not_told.right z set) ∙ few))));
        not_told = λ many. meets.right z set ∙ ne_eqb v 1 (λ e. omega (arith, ltb-true 1 v (sym (not_told.right z set) ∙ many)));
      };
}

-- Pairs that each have a corner alone.
module _ {s : Stances} {asked : ℕ} (alone : AllAlone s asked) where
  pub alone_stood : AllStood s asked
  alone_stood z set = record {
    second = alone.stands_second z set;
    near_first = λ e. omega (arith, alone.near_first z set);
    first = λ r1. alone.stands_first z set;
    near_second = λ r1 e. omega (arith, alone.near_second z set);
  }

  pub alone_numbered : AllNumbered s asked
  alone_numbered z set = ((alone.stands_first z set).number, (alone.stands_second z set).number)

  -- The last signs tell.
  crossing_judged : (z : ℕ) {kept other : Bool} → bit z asked ≡ true → CrossedAt s z kept other → other ≡ false →
      JudgedAt s.pairs z kept
  crossing_judged z set crossed told = record {
    judges =
        judged_crossing (lined s.pairs.first z) (lined s.pairs.second z) (alone.stands_first z set) (alone.stands_second z set)
        (λ e. omega (arith, alone.near_second z set)) (λ e. omega (arith, alone.near_second z set))
        (λ e. omega (arith, alone.near_first z set)) (λ e. omega (arith, alone.near_first z set))
        (crossed.told told);
  }

  -- By the estimate, and exactly where it can't tell and where pairs are close.
  module _ {close kept other : ℕ} (near : AllStood s close)
      (parted : Parted (CrossedAt s) asked close kept other) where
    -- What is left was asked, or is close.
    pub rest_of : (z : ℕ) → bit z other ≡ true → (bit z asked ≡ true) ⊎ (bit z close ≡ true)
    rest_of z set = by_bit (bit z asked) refl
      where
        by_bit : (b : Bool) → bit z asked ≡ b → (bit z asked ≡ true) ⊎ (bit z close ≡ true)
        by_bit true e = inl e
        by_bit false e = inr (sym (parted.other_stays z e) ∙ set)

    pub rest_stood : AllStood s other
    rest_stood z set = by_case (rest_of z set)
      where
        by_case : (bit z asked ≡ true) ⊎ (bit z close ≡ true) → Stood (lined s.pairs.first z) (lined s.pairs.second z) (get_or s.first.now z 0) (get_or s.second.now z 0)
        by_case (inl e) = alone_stood z e
        by_case (inr e) = near z e

    pub rest_posed : Numbering s asked → Numbering s close → Numbering s other
    rest_posed first last = record { posed = λ z set. by_case z (rest_of z set) }
      where
        by_case : (z : ℕ) → (bit z asked ≡ true) ⊎ (bit z close ≡ true) → Paired s.pairs z
        by_case z (inl e) = first.posed z e
        by_case z (inr e) = last.posed z e

    pub rest_clear : Clear other kept
    rest_clear z set = by_case (rest_of z set)
      where
        by_case : (bit z asked ≡ true) ⊎ (bit z close ≡ true) → bit z kept ≡ false
        by_case (inl e) = (parted.right z e).not_told set
        by_case (inr e) = by_bit (bit z asked) refl
          where
            by_bit : (b : Bool) → bit z asked ≡ b → bit z kept ≡ false
            by_bit true e' = (parted.right z e').not_told set
            by_bit false e' = parted.kept_none z e'

    pub judged_rest : {word : ℕ} → Marked (JudgedAt s.pairs) kept other word → Judged s.pairs asked close word
    judged_rest {word} marks = record {
      small = λ n few small. marks.small n (parted.kept_small n few) (parted.other_small n small few);
      right = right;
      none = λ z none-asked none-close. marks.stays z (parted.other_stays z none-asked ∙ none-close) ∙ parted.kept_none z none-asked;
    }
      where
        right : (z : ℕ) → (bit z asked ≡ true) ⊎ (bit z close ≡ true) → JudgedAt s.pairs z (bit z word)
        right z case = by_bit (bit z other) refl case
          where
            by_bit : (b : Bool) → bit z other ≡ b → (bit z asked ≡ true) ⊎ (bit z close ≡ true) → JudgedAt s.pairs z (bit z word)
            by_bit true e one = marks.right z e
            by_bit false e (inl set) = subst (JudgedAt s.pairs z) (sym (marks.stays z e)) (crossing_judged z set (parted.right z set) e)
            by_bit false e (inr set) = by_asked (bit z asked) refl
              where
                by_asked : (b : Bool) → bit z asked ≡ b → JudgedAt s.pairs z (bit z word)
                by_asked true e' = subst (JudgedAt s.pairs z) (sym (marks.stays z e)) (crossing_judged z e' (parted.right z e') e)
                by_asked false e' = both set (sym (parted.other_stays z e') ∙ e)

-- Exactly throughout: the pairs with a corner alone, and then the close ones.
pub judged_exactly : {p : Pairs} {alone close first word : ℕ} → Clear alone close → Marked (JudgedAt p) 0 alone first →
    Marked (JudgedAt p) first close word → Judged p alone close word
judged_exactly {p} {alone} {close} {first} {word} clear one two = record {
  small = λ n few small. two.small n (one.small n (pow_pos n) few) small;
  right = right;
  none = λ z none-alone none-close. two.stays z none-close ∙ one.stays z none-alone ∙ bit_of_none z;
}
  where
    right : (z : ℕ) → (bit z alone ≡ true) ⊎ (bit z close ≡ true) → JudgedAt p z (bit z word)
    right z (inl set) = subst (JudgedAt p z) (sym (two.stays z (clear z set))) (one.right z set)
    right z (inr set) = two.right z set

-- The close ones have no bit yet.
pub close_clear : {p : Pairs} {alone close first : ℕ} → Clear alone close → Marked (JudgedAt p) 0 alone first →
    Clear close first
close_clear {alone = alone} {first = first} clear one z set = by_bit (bit z alone) refl
  where
    by_bit : (b : Bool) → bit z alone ≡ b → bit z first ≡ false
    by_bit true e = both set (clear z e)
    by_bit false e = one.stays z e ∙ bit_of_none z
