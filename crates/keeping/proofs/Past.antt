-- The journal of a history: a change noted in it and taken out again, and what its latest entry tells. Assumes nothing.
use Rattle.std.proofs.Common.{◌≡◌, Bool, true, false, ℤ, ℕ, zero, suc, ◌≤◌, min, List, [], ◌∷◌, ◌++◌, map, length, get_or, take, drop, set, replicate, sym, refl, ap, ◌∙◌, arith, length-set, set-set}
use native.Mathlib.Nat.{suc-min-suc, min-zero}
use lib.ListN.{length-map, length-replicate, drop_of_length-le}
use lib.Seq.{set-get_or, set_at, take_all, drop-cons}
use Rattle.std.specs.List.{copy_within}
use Rattle.std.proofs.Common.{append-nil, length-drop}
use Rattle.slots.specs.Slots.{Slot, free, held}
use Rattle.slots.specs.Changes.{Change, place, lift, shift, thrice, shifted, apply, replay}
use Rattle.slots.specs.Arrays.{numbers_of, mark_of}
use Rattle.keeping.specs.Journal.{blank, slot_entry, entry_of, journal_of}
use Rattle.keeping.specs.declared.journal.Entry.{Entry}
use Rattle.keeping.specs.declared.journal.Entry.TheVariants.{Stood, Shift}
use Rattle.std.proofs.lemmas.Bool.{false≢true}

-- ---- the slots
apply_long : (S : List Slot) (c : Change) → length (apply S c) ≡ length S
unfolding apply
apply_long S (place s q numbers) = length-set S s (held q numbers)
apply_long S (lift s) = length-set S s free
apply_long S (shift q dx dy dz) = length-map S (shifted q (thrice dx dy dz))

-- There are always 64 slots.
pub long : (past : List Change) → length (replay past) ≡ 64
unfolding replay
long [] = length-replicate 64 free
long (c ∷ past) = apply_long (replay past) c ∙ long past

-- What stood in a slot, put back.
pub put_back : (S : List Slot) (s : ℕ) (x : Slot) → set (set S s x) s (get_or S s free) ≡ S
put_back S s x = set-set S s x (get_or S s free) ∙ set-get_or S s free

-- ---- the journal
-- With room for one entry less.
journal_take : (n : ℕ) (past : List Change) (k : ℕ) → take n (journal_of (suc n) past k) ≡ journal_of n past k
unfolding journal_of
journal_take zero past k = refl
journal_take (suc n) past zero = ap (λ (l : List Entry). blank ∷ l) (journal_take n past zero)
journal_take (suc n) [] (suc k) = ap (λ (l : List Entry). blank ∷ l) (journal_take n [] k)
journal_take (suc n) (c ∷ past) (suc k) = ap (λ (l : List Entry). entry_of (replay past) c ∷ l) (journal_take n past k)

-- A reach beyond its room.
journal_cap : (n : ℕ) (past : List Change) (k : ℕ) → journal_of n past (min n k) ≡ journal_of n past k
unfolding journal_of
journal_cap zero past k = refl
journal_cap (suc n) past zero = ap (journal_of (suc n) past) (min-zero (suc n))
journal_cap (suc n) [] (suc k) = ap (journal_of (suc n) []) (suc-min-suc n k) ∙ ap (λ (l : List Entry). blank ∷ l) (journal_cap n [] k)
journal_cap (suc n) (c ∷ past) (suc k) =
    ap (journal_of (suc n) (c ∷ past)) (suc-min-suc n k) ∙ ap (λ (l : List Entry). entry_of (replay past) c ∷ l) (journal_cap n past k)

-- With one blank more.
journal_blank : (n : ℕ) (past : List Change) (k : ℕ) → k ≤ n → journal_of n past k ++ (blank ∷ []) ≡ journal_of (suc n) past k
unfolding journal_of
journal_blank zero past zero h = refl
journal_blank zero past (suc k) h = absurd (omega arith)
journal_blank (suc n) past zero h = ap (λ (l : List Entry). blank ∷ l) (journal_blank n past zero (omega arith))
journal_blank (suc n) [] (suc k) h = ap (λ (l : List Entry). blank ∷ l) (journal_blank n [] k (omega arith))
journal_blank (suc n) (c ∷ past) (suc k) h = ap (λ (l : List Entry). entry_of (replay past) c ∷ l) (journal_blank n past k (omega arith))

-- A change noted, found on top, and taken out.
pub journal_push : (n : ℕ) (c : Change) (past : List Change) (k : ℕ) →
    entry_of (replay past) c ∷ take n (journal_of (suc n) past k) ≡ journal_of (suc n) (c ∷ past) (min (suc n) (suc k))
unfolding journal_of
journal_push n c past k =
    ap (λ (l : List Entry). entry_of (replay past) c ∷ l) (journal_take n past k) ∙ sym (journal_cap (suc n) (c ∷ past) (suc k))

-- (Past the end stands z, whatever it is.)
pub journal_top : (z : Entry) (n : ℕ) (c : Change) (past : List Change) (k : ℕ) →
    get_or (journal_of (suc n) (c ∷ past) (suc k)) 0 z ≡ entry_of (replay past) c
unfolding journal_of
journal_top z n c past k = refl

pub journal_pop : (n : ℕ) (c : Change) (past : List Change) (k : ℕ) → k ≤ n →
    drop 1 (journal_of (suc n) (c ∷ past) (suc k)) ++ (blank ∷ []) ≡ journal_of (suc n) past k
unfolding journal_of
journal_pop n c past k h = journal_blank n past k h

-- Blanks alone, at the start.
pub blanks : (n : ℕ) → journal_of n [] 0 ≡ replicate n blank
unfolding journal_of
blanks zero = refl
blanks (suc n) = ap (λ (l : List Entry). blank ∷ l) (blanks n)

-- ---- as code moves the entries
pub pushed_law : (old : List Entry) (latest : Entry) → length old ≡ 32 → set (copy_within old 0 31 1) 0 latest ≡ latest ∷ take 31 old
pushed_law [] latest h = absurd (omega arith)
pushed_law (e ∷ old) latest h =
    let short : length (e ∷ old) ≤ 32 = omega arith in
    ap (λ (l : List Entry). latest ∷ take 31 (e ∷ old) ++ l) (drop_of_length-le (e ∷ old) short)
    ∙ ap (λ (l : List Entry). latest ∷ l) (append-nil (take 31 (e ∷ old)))

pub popped_law : (old : List Entry) (latest : Entry) → length old ≡ 32 → set (copy_within old 1 32 0) 31 latest ≡ drop 1 old ++ (latest ∷ [])
popped_law old latest h =
    let rest : length (drop 1 old) ≡ 31 = simp length-drop (omega arith) in
    let short : length old ≤ 32 = omega arith in
    (λ i. set (take_all 31 (drop 1 old) (omega arith) i ++ drop-cons old 31 latest (omega arith) i) 31 latest)
    ∙ set_at (drop 1 old) (get_or old 31 latest) (drop 32 old) latest 31 rest
    ∙ ap (λ (l : List Entry). drop 1 old ++ (latest ∷ l)) (drop_of_length-le old short)

-- ---- what an entry tells
-- Its parts, by its kind.
slot_in : Entry → ℕ
slot_in (Stood s mark numbers) = s
slot_in (Shift mark by) = 0

mark_in : Entry → ℕ
mark_in (Stood s mark numbers) = mark
mark_in (Shift mark by) = mark

numbers_in : Entry → List ℤ
numbers_in (Stood s mark numbers) = numbers
numbers_in (Shift mark by) = by

is_shift : Entry → Bool
is_shift (Stood s mark numbers) = false
is_shift (Shift mark by) = true

-- An entry of a slot: the slot as it was.
pub record AtSlot (S : List Slot) (c : Change) (s mark : ℕ) (numbers : List ℤ) : Type 0 where
  pub new : Slot
  pub is : apply S c ≡ set S s new
  pub mark_was : mark ≡ mark_of (get_or S s free)
  pub numbers_were : numbers ≡ numbers_of (get_or S s free)

slot_entry_law : {S : List Slot} {c : Change} {at mark : ℕ} {numbers : List ℤ} (s : ℕ) (x : Slot) → Stood at mark numbers ≡ slot_entry s (get_or S s free) →
    apply S c ≡ set S s x → AtSlot S c at mark numbers
unfolding slot_in mark_in numbers_in
slot_entry_law {S} {at} s x h g =
    let same : at ≡ s = ap slot_in h in
    record {
      new = x;
      is = g ∙ ap (λ (n : ℕ). set S n x) (sym same);
      mark_was = ap mark_in h ∙ ap (λ (n : ℕ). mark_of (get_or S n free)) (sym same);
      numbers_were = ap numbers_in h ∙ ap (λ (n : ℕ). numbers_of (get_or S n free)) (sym same);
    }

pub at_slot : (S : List Slot) (c : Change) (s mark : ℕ) (numbers : List ℤ) → Stood s mark numbers ≡ entry_of S c → AtSlot S c s mark numbers
unfolding apply is_shift
at_slot S (place s q numbers) t mark were h = slot_entry_law s (held q numbers) h refl
at_slot S (lift s) t mark were h = slot_entry_law s free h refl
at_slot S (shift q dx dy dz) t mark were h = absurd (false≢true (ap is_shift h))

-- An entry of a shift: its part and its steps.
pub record AtPart (S : List Slot) (c : Change) (mark : ℕ) (by : List ℤ) : Type 0 where
  pub part : ℕ
  pub is : apply S c ≡ map (shifted part by) S
  pub mark_was : mark ≡ suc part
  pub long : length by ≡ 9

pub at_part : (S : List Slot) (c : Change) (mark : ℕ) (by : List ℤ) → Shift mark by ≡ entry_of S c → AtPart S c mark by
unfolding apply is_shift mark_in numbers_in
at_part S (place s q numbers) mark by h = absurd (false≢true (sym (ap is_shift h)))
at_part S (lift s) mark by h = absurd (false≢true (sym (ap is_shift h)))
at_part S (shift q dx dy dz) mark by h = record {
  part = q;
  is = ap (λ (e : Entry). map (shifted q (numbers_in e)) S) (sym h);
  mark_was = ap mark_in h;
  long = ap (λ (e : Entry). length (numbers_in e)) h;
}
