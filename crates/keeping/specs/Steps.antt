-- What the functions between the arrays and the calls promise: one step on a plate.
use Rattle.std.specs.Prelude.{◌≡◌, ℕ, suc, ◌+◌, ◌-◌, ◌%◌, ◌^◌, min, List, ◌∷◌, map, take, ℤ, slice_index_or, slice_set}
use Rattle.slots.specs.Slots.{Slot, free}
use Rattle.slots.specs.Changes.{Change, shifted, apply}
use Rattle.slots.specs.Arrays.{numbers_of, mark_of}
use Rattle.slots.specs.Counting.{tally}
use Rattle.slots.specs.Showing.{FitSlot, Fit, Shown}
use Rattle.slots.specs.declared.flat.Slots.{Slots}
use Rattle.keeping.specs.Journal.{slot_entry, entry_of}
use Rattle.keeping.specs.declared.plates.Plate.{Plate}
use Rattle.keeping.specs.declared.journal.Entry.{Entry}
use Rattle.keeping.specs.declared.journal.Entry.TheVariants.{Shift}

-- A plate with these slots, this journal and this reach, and the count of the slots.
pub record Shows (S : List Slot) (j : List Entry) (k : ℕ) (p : Plate) : Type 0 where
  pub slots : Shown S p.slots.coords p.slots.marks
  pub journal : p.journal ≡ j
  pub reach : p.reach ≡ k
  pub count : p.count ≡ tally S

-- The slots changed, and the count with them: counted is what is taken off before and put on after.
pub record Recounted (p : Plate) (counted : Slots → ℕ → Type 0) (changed : Slots → Unit {0} → Slots → Type 0) (r : Plate) : Type 0 where
  pub less : ℕ
  pub more : ℕ
  pub before : counted p.slots less
  pub change : changed p.slots tt r.slots
  pub after : counted r.slots more
  pub count : r.count ≡ ((p.count + (2 ^ 32 - less)) % 2 ^ 32 + more) % 2 ^ 32
  pub journal : r.journal ≡ p.journal
  pub reach : r.reach ≡ p.reach

-- A slot written, and the count with it.
pub record Written (p : Plate) (s mark : ℕ) (numbers : List ℤ) (r : Plate) : Type 0 where
  pub is : {S : List Slot} {j : List Entry} {k : ℕ} (x : Slot) → Shows S j k p → FitSlot x → mark ≡ mark_of x → numbers ≡ numbers_of x → Shows (slice_set S s x) j k r

-- An entry noted in the journal.
pub record Noted (p : Plate) (e : Entry) (r : Plate) : Type 0 where
  pub is : {S : List Slot} {j : List Entry} {k : ℕ} → Shows S j k p → Shows S (e ∷ take 31 j) (min 32 (suc k)) r

-- A slot written, with what stood there noted.
pub record Changed (p : Plate) (s mark : ℕ) (numbers : List ℤ) (r : Plate) : Type 0 where
  pub is : {S : List Slot} {j : List Entry} {k : ℕ} (x : Slot) → Shows S j k p → FitSlot x → mark ≡ mark_of x → numbers ≡ numbers_of x
      → Shows (slice_set S s x) (slot_entry s (slice_index_or S s free) ∷ take 31 j) (min 32 (suc k)) r

-- A part moved in a plate, with its count. Where a slot would leave the grid nothing is said.
pub record Nudged (p : Plate) (mark : ℕ) (by : List ℤ) (r : Plate) : Type 0 where
  pub is : {S : List Slot} {j : List Entry} {k : ℕ} (q : ℕ) → Shows S j k p → mark ≡ suc q → Fit (map (shifted q by) S) → Shows (map (shifted q by) S) j k r

-- A part moved, with its steps noted.
pub record Slid (p : Plate) (mark : ℕ) (by : List ℤ) (r : Plate) : Type 0 where
  pub is : {S : List Slot} {j : List Entry} {k : ℕ} (q : ℕ) → Shows S j k p → mark ≡ suc q → Fit (map (shifted q by) S)
      → Shows (map (shifted q by) S) (Shift (suc q) by ∷ take 31 j) (min 32 (suc k)) r

-- What an entry of the journal keeps, put back.
pub record Restored (p : Plate) (e : Entry) (r : Plate) : Type 0 where
  pub is : (S : List Slot) (c : Change) {j : List Entry} {k : ℕ} → Fit S → e ≡ entry_of S c → Shows (apply S c) j k p → Shows S j k r
