-- The stages of a word (specs/Stages.antt): numbers and bits that a loop leaves at the places that are asked, the lowest first. Assumes nothing.
use mathlib.Core.Path.{◌≡◌, refl, sym, ◌∙◌}
use mathlib.Core.Bool.{Bool, true, false}
use mathlib.Core.List.{List}
use Prim.Native.Nat.{ℕ, ◌+◌, ◌*◌, ◌^◌, ◌<◌}
use native.Mathlib.Omega.{arith}
use native.Mathlib.Decide.{ℕ_discrete}
use lib.IntN.{ℤ}
use lib.ListN.{length, get_or, drop, set, length-set}
use lib.Seq.{get_or-set_same, get_or-set_other}
use mir.Val.{bool_byte}
use Rattle.exact.specs.Small.{narrow, Narrow, BothNarrow}
use Rattle.exact.proofs.GridLaws.{small_taken, small_dropped}
use Rattle.words.specs.Bits.{bit, Lowest, Takes}
use Rattle.words.proofs.LowestLaws.{lowest_is_set, others_stay}
use Rattle.words.proofs.BitLaws.{bit_of_none}
use Rattle.words.proofs.Filling.{both, Filled, filled_starts, filled_on, filled_told}
use Rattle.boxes.specs.Triangles.{nine}
use Rattle.deciding.specs.declared.verdicts.Stances.{Stances}
use Rattle.deciding.specs.Stages.{Told, Marked, Faced, Numbering}

-- ---- the numbers of a part of a narrow list
pub narrow_nine : (i : ℕ) (numbers : List ℤ) → Narrow numbers → Narrow (nine i numbers)
narrow_nine i numbers h = small_taken narrow 9 (drop (9 * i) numbers) (small_dropped narrow (9 * i) numbers h)

pub second_narrow_nine : (flag : Bool) (t u : List ℤ) (j : ℕ) → BothNarrow flag t u → BothNarrow flag t (nine j u)
second_narrow_nine flag t u j h set = ((h set).0, narrow_nine j u (h set).1)

-- ---- one bit at each place
-- A flag that code made is added.
pub flag_added : {Right : ℕ → Bool → Type 0} {start asked left next word z a : ℕ} {v : Bool} → Filled Right start asked left word →
    Lowest z left next → Right z v → a ≡ bool_byte v * 2 ^ z → Filled Right start asked next (word + a)
flag_added so_far low this ea = rw ea (filled_on so_far low this)

-- A word that has all its bits.
pub marked : {Right : ℕ → Bool → Type 0} {start asked word : ℕ} → Filled Right start asked 0 word → Marked Right start asked word
marked filled = record { small = filled.small; right = λ z set. filled.right z set (bit_of_none z); stays = filled.stays }

-- ---- a number at each place, and a bit in each of two words that tells something of it
pub record Sorting (Says : ℕ → ℕ → Type 0) (First Second : ℕ → Bool → Type 0) (asked one two : ℕ) (before : List ℕ) (left : ℕ) (after : List ℕ) (first second : ℕ) : Type 0 where
  pub long : length after ≡ 64
  pub says : (z : ℕ) → bit z asked ≡ true → bit z left ≡ false → Says z (get_or after z 0)
  pub stays : (z : ℕ) → bit z asked ≡ false → get_or after z 0 ≡ get_or before z 0
  pub by_first : Filled (λ z b. First (get_or after z 0) b) one asked left first
  pub by_second : Filled (λ z b. Second (get_or after z 0) b) two asked left second

pub sorting_starts : {Says : ℕ → ℕ → Type 0} {First Second : ℕ → Bool → Type 0} {asked one two : ℕ} {before : List ℕ} → length before ≡ 64 →
    ((z : ℕ) → bit z asked ≡ true → bit z one ≡ false) → ((z : ℕ) → bit z asked ≡ true → bit z two ≡ false) →
    Sorting Says First Second asked one two before asked before one two
sorting_starts long none-one none-two = record {
  long = long;
  says = λ z set clear. both set clear;
  stays = λ z clear. refl;
  by_first = filled_starts none-one;
  by_second = filled_starts none-two;
}

-- The lowest place gets its number and its bits.
pub sorting_on : {Says : ℕ → ℕ → Type 0} {First Second : ℕ → Bool → Type 0} {asked one two : ℕ} {before : List ℕ} {left next first second z s a b : ℕ} {after : List ℕ} {v w : Bool} →
    Sorting Says First Second asked one two before left after first second → Takes left z next → Says z s →
    First s v → Second s w → a ≡ bool_byte v * 2 ^ z → b ≡ bool_byte w * 2 ^ z → Sorting Says First Second asked one two before next (set after z s) (first + a) (second + b)
sorting_on {Says} {First} {Second} {asked} {one} {two} {before} {left} {next} {first} {second} {z} {s} {after = after} {v} {w} so_far step this here_v here_w ea eb = rw (ea, eb) (record {
  long = length-set after z s ∙ so_far.long;
  says = says;
  stays = λ y clear. elsewhere y (λ e. both (so_far.by_first.still_asked z (lowest_is_set low)) (rw (← e) clear)) ∙ so_far.stays y clear;
  by_first = filled_on {v = v} (filled_told so_far.by_first (λ y clear e. rw (elsewhere y (other y clear)) e)) low (rw here here_v);
  by_second = filled_on {v = w} (filled_told so_far.by_second (λ y clear e. rw (elsewhere y (other y clear)) e)) low (rw here here_w);
})
  where
    low : Lowest z left next
    low = step.lowest

    here : get_or (set after z s) z 0 ≡ s
    here = get_or-set_same after z s 0 (omega (arith, so_far.long, step.within))

    elsewhere : (y : ℕ) → (y ≡ z → ⊥) → get_or (set after z s) y 0 ≡ get_or after y 0
    elsewhere y apart = get_or-set_other after z y s 0 apart

    other : (y : ℕ) → bit y left ≡ false → y ≡ z → ⊥
    other y clear e = both (lowest_is_set low) (rw (← e) clear)

    says : (y : ℕ) → bit y asked ≡ true → bit y next ≡ false → Says y (get_or (set after z s) y 0)
    says y Asked-here clear = by_place (ℕ_discrete y z)
      where
        by_place : Dec (y ≡ z) → Says y (get_or (set after z s) y 0)
        by_place (yes e) = rw (e, here) this
        by_place (no apart) = rw (elsewhere y apart) (so_far.says y Asked-here (sym (others_stay low y apart) ∙ clear))

pub sorting_ends : {Says : ℕ → ℕ → Type 0} {First Second : ℕ → Bool → Type 0} {asked one two : ℕ} {before after : List ℕ} {first second : ℕ} →
    Sorting Says First Second asked one two before 0 after first second →
    Told Says asked before after × Marked (λ z b. First (get_or after z 0) b) one asked first × Marked (λ z b. Second (get_or after z 0) b) two asked second
sorting_ends so_far = (
  record { long = so_far.long; says = λ z set. so_far.says z set (bit_of_none z); stays = so_far.stays },
  marked so_far.by_first,
  marked so_far.by_second,
)

-- The pair of a place that is asked, and its numbers.
pub faced : {s : Stances} {asked z : ℕ} → Numbering s asked → bit z asked ≡ true → z < 64 → Faced s z
faced numbering set within = record { pair = numbering.posed _ set; within = within }
