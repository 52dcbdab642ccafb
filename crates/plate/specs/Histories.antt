-- The history of a plate: the accepted changes that have not been taken back, and how far undo reaches (document 01).
use Rattle.std.specs.Prelude.{List, [], ◌∷◌, ℕ, zero, suc, min, drop}
use Rattle.checks.specs.Answers.{Answer, served, refused, ◌then◌}
use Rattle.slots.specs.Slots.{Slot}
use Rattle.slots.specs.Changes.{Change, replay}
use Rattle.reasons.specs.Rules.{change_checks}

-- The changes that stand, the latest first, and the reach.
pub record History : Type 0 where
  pub past : List Change
  pub reach : ℕ

-- The slots that a history leads to: the replay of what stands, from empty.
abbrev pub slots_of : History → List Slot
slots_of h = replay h.past

-- The calls that change a plate.
pub data Call : Type 0 where
  change : Change → Call
  undo : Call

-- A change raises the reach by one, to 32 at most.
abbrev pub made : History → Change → History
made h c = record { past = c ∷ h.past; reach = min 32 (suc h.reach) }

-- Undo takes back the latest change and lowers the reach by one. Reason 12: undo at reach 0.
abbrev pub taken_back : List Change → ℕ → Answer History
taken_back past zero = refused 12 0 0
taken_back past (suc k) = served (record { past = drop 1 past; reach = k })

-- What a call does to a history.
unfoldable pub outcome : History → Call → Answer History
outcome h (change c) = change_checks (slots_of h) c then served (made h c)
outcome h undo = taken_back h.past h.reach

-- A refused call counts as not made.
abbrev pub next : History → Answer History → History
next h (served after) = after
next h (refused number side place) = h

-- Before any call.
abbrev pub start : History
start = record { past = []; reach = 0 }

-- The history after these calls, the latest of which stands first.
unfoldable pub run : List Call → History
run [] = start
run (c ∷ before) = next (run before) (outcome (run before) c)
