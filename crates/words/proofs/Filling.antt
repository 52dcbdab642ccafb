-- A word that is filled bit by bit, where a loop takes the places of another word one by one, the lowest first. Assumes nothing.
use mathlib.Core.Path.{◌≡◌, refl, sym, ◌∙◌}
use mathlib.Core.Bool.{Bool, true, false, true≢false}
use Prim.Native.Nat.{ℕ, ◌+◌, ◌*◌, ◌^◌, ◌<◌}
use native.Mathlib.Omega.{arith}
use native.Mathlib.Decide.{ℕ_discrete}
use mir.Val.{bool_byte}
use Rattle.words.specs.Bits.{bit, Lowest}
use Rattle.words.proofs.BitLaws.{bit_added, bit_added_other, added_small}
use Rattle.words.proofs.LowestLaws.{lowest_is_set, lowest_is_gone, others_stay, rest_less, lowest_within}

-- No bit is both set and clear.
pub both : {X : Type 0} {b : Bool} → b ≡ true → b ≡ false → X
both set clear = absurd (true≢false (sym set ∙ clear))

-- ---- a word with one bit more, where it had none
-- Its place in the word was 0, and becomes 1 where the flag is set.
abbrev pub put : ℕ → ℕ → Bool → ℕ
put z word v = word + bool_byte v * 2 ^ z

module _ (z word : ℕ) (none : bit z word ≡ false) where
  put_same : (word + 0 * 2 ^ z ≡ word) × (word + 1 * 2 ^ z ≡ word + 2 ^ z)
  put_same = (omega arith, omega arith)

  pub put_here : (v : Bool) → bit z (put z word v) ≡ v
  put_here true = rw put_same.1 (bit_added z word none)
  put_here false = rw put_same.0 none

  pub put_other : (v : Bool) (t : ℕ) → (t ≡ z → ⊥) → bit t (put z word v) ≡ bit t word
  put_other true t other = rw put_same.1 (bit_added_other t z word other none)
  put_other false t other = rw put_same.0

  pub put_small : (v : Bool) (n : ℕ) → z < n → word < 2 ^ n → put z word v < 2 ^ n
  put_small true n h small = rw put_same.1 (added_small n z word small h none)
  put_small false n h small = rw put_same.0 small

-- ---- the word that is filled
-- It starts as `start`. The places in `asked` get the bits that are right for them; those in `left` have not got theirs yet, and every other place
-- keeps its bit.
pub record Filled (Right : ℕ → Bool → Type 0) (start asked left word : ℕ) : Type 0 where
  pub few : (n : ℕ) → asked < 2 ^ n → left < 2 ^ n
  pub small : (n : ℕ) → start < 2 ^ n → asked < 2 ^ n → word < 2 ^ n
  pub still_asked : (z : ℕ) → bit z left ≡ true → bit z asked ≡ true
  pub open_yet : (z : ℕ) → bit z left ≡ true → bit z word ≡ false
  pub right : (z : ℕ) → bit z asked ≡ true → bit z left ≡ false → Right z (bit z word)
  pub stays : (z : ℕ) → bit z asked ≡ false → bit z word ≡ bit z start

-- At first no place that is asked has its bit.
pub filled_starts : {Right : ℕ → Bool → Type 0} {start asked : ℕ} → ((z : ℕ) → bit z asked ≡ true → bit z start ≡ false) →
    Filled Right start asked asked start
filled_starts none = record {
  few = λ n few. few;
  small = λ n small few. small;
  still_asked = λ z set. set;
  open_yet = none;
  right = λ z set clear. both set clear;
  stays = λ z clear. refl;
}

-- The lowest place gets its bit.
pub filled_on : {Right : ℕ → Bool → Type 0} {start asked left next word z : ℕ} {v : Bool} → Filled Right start asked left word →
    Lowest z left next → Right z v → Filled Right start asked next (put z word v)
filled_on {Right} {start} {asked} {left} {next} {word} {z} {v} so_far low this = record {
  few = λ n few. omega (arith, rest_less low, so_far.few n few);
  small = λ n small few. put_small z word none v n (lowest_within low n (so_far.few n few)) (so_far.small n small few);
  still_asked = λ y set. so_far.still_asked y (sym (others_stay low y (other y set)) ∙ set);
  open_yet = λ y set. put_other z word none v y (other y set) ∙ so_far.open_yet y (sym (others_stay low y (other y set)) ∙ set);
  right = right;
  stays = stays;
}
  where
    none : bit z word ≡ false
    none = so_far.open_yet z (lowest_is_set low)

    other : (y : ℕ) → bit y next ≡ true → y ≡ z → ⊥
    other y set e = both set (rw e (lowest_is_gone low))

    stays : (y : ℕ) → bit y asked ≡ false → bit y (put z word v) ≡ bit y start
    stays y clear =
        put_other z word none v y (λ e. both (so_far.still_asked z (lowest_is_set low)) (rw (← e) clear)) ∙ so_far.stays y clear

    right : (y : ℕ) → bit y asked ≡ true → bit y next ≡ false → Right y (bit y (put z word v))
    right y set clear = by_place (ℕ_discrete y z)
      where
        by_place : Dec (y ≡ z) → Right y (bit y (put z word v))
        by_place (yes e) = rw (e, put_here z word none v) this
        by_place (no apart) = rw (put_other z word none v y apart) (so_far.right y set (sym (others_stay low y apart) ∙ clear))

-- What is right may be said otherwise, of the places that have their bits.
pub filled_told : {Right Other : ℕ → Bool → Type 0} {start asked left word : ℕ} → Filled Right start asked left word →
    ((z : ℕ) → bit z left ≡ false → Right z (bit z word) → Other z (bit z word)) → Filled Other start asked left word
filled_told so_far told = record {
  few = so_far.few;
  small = so_far.small;
  still_asked = so_far.still_asked;
  open_yet = so_far.open_yet;
  right = λ z set clear. told z clear (so_far.right z set clear);
  stays = so_far.stays;
}

-- The lowest place is among the first 64, and one bit more fits.
pub filled_place : {Right : ℕ → Bool → Type 0} {start asked left next word z : ℕ} → Filled Right start asked left word → Lowest z left next →
    (n : ℕ) → asked < 2 ^ n → z < n
filled_place so_far low n few = lowest_within low n (so_far.few n few)

pub filled_fits : {Right : ℕ → Bool → Type 0} {start asked left next word z : ℕ} (v : Bool) → Filled Right start asked left word →
    Lowest z left next → (n : ℕ) → start < 2 ^ n → asked < 2 ^ n → put z word v < 2 ^ n
filled_fits {word = word} {z} v so_far low n small few =
    put_small z word (so_far.open_yet z (lowest_is_set low)) v n (filled_place so_far low n few) (so_far.small n small few)
