-- What the checks of a change find, asked of arrays. No public promise speaks of it.
use Rattle.std.specs.Prelude.{◌≡◌, cond, List, map, ℕ, ◌≤◌, eqb, ℤ}
use Rattle.exact.specs.Grid.{Ready}
use Rattle.checks.specs.Answers.{Check, refused, fine}
use Rattle.slots.specs.Slots.{Slot}
use Rattle.slots.specs.Changes.{place, lift, shift}
use Rattle.slots.specs.Arrays.{mark_of}
use Rattle.slots.specs.Showing.{Shown}
use Rattle.reasons.specs.Rules.{change_checks}

-- Of slots that the arrays show it is what the rule finds; and where nothing is found the numbers are within bounds, whatever the arrays are.
pub record PlaceFound (marks : List ℕ) (slot part : ℕ) (numbers : List ℤ) (found : Check) : Type 0 where
  pub rule : (S : List Slot) → marks ≡ map mark_of S → found ≡ change_checks S (place slot part numbers)
  pub slot_is_within : found ≡ fine → slot ≤ 63
  pub part_is_within : found ≡ fine → part ≤ 15
  pub ready : found ≡ fine → Ready 9 numbers

pub record LiftFound (marks : List ℕ) (slot : ℕ) (found : Check) : Type 0 where
  pub rule : (S : List Slot) → marks ≡ map mark_of S → found ≡ change_checks S (lift slot)
  pub slot_is_within : found ≡ fine → slot ≤ 63

pub record ShiftFound (coords : List ℤ) (marks : List ℕ) (part : ℕ) (dx dy dz : ℤ) (found : Check) : Type 0 where
  pub rule : (S : List Slot) → Shown S coords marks → found ≡ change_checks S (shift part dx dy dz)
  pub part_is_within : found ≡ fine → part ≤ 15

-- Reason 12, by the reach alone.
abbrev pub undo_found : ℕ → Check
undo_found reach = cond (eqb reach 0) (refused 12 0 0) fine
