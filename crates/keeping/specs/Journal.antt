-- The journal: what it keeps of a change, and of the latest changes of a history.
use Rattle.std.specs.Prelude.{ℕ, zero, suc, List, [], ◌∷◌, replicate, pos, slice_index_or}
use Rattle.slots.specs.Slots.{Slot, free}
use Rattle.slots.specs.Changes.{Change, place, lift, shift, thrice, replay}
use Rattle.slots.specs.Arrays.{numbers_of, mark_of}
use Rattle.keeping.specs.declared.journal.Entry.{Entry}
use Rattle.keeping.specs.declared.journal.Entry.TheVariants.{Stood, Shift}

-- Nothing: the shift of no part by nothing.
abbrev pub blank : Entry
blank = Shift 0 (replicate 9 (pos 0))

-- What the journal keeps of a change that was made to the slots S: of a slot what stood there, of a shift its part and its steps.
abbrev pub slot_entry : ℕ → Slot → Entry
slot_entry s x = Stood s (mark_of x) (numbers_of x)

abbrev pub entry_of : List Slot → Change → Entry
entry_of S (place s q numbers) = slot_entry s (slice_index_or S s free)
entry_of S (lift s) = slot_entry s (slice_index_or S s free)
entry_of S (shift q dx dy dz) = Shift (suc q) (thrice dx dy dz)

-- A journal with room for n entries: those of the latest k changes, the latest first, and then blanks.
unfoldable pub journal_of : ℕ → List Change → ℕ → List Entry
journal_of zero past k = []
journal_of (suc n) past zero = blank ∷ journal_of n past zero
journal_of (suc n) [] (suc k) = blank ∷ journal_of n [] k
journal_of (suc n) (c ∷ past) (suc k) = entry_of (replay past) c ∷ journal_of n past k
