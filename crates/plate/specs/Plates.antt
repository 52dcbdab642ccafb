-- Which value of the struct `Plate` stands for a history, to the last number; and what each call promises.
use Rattle.std.specs.Prelude.{◌≡◌, Bool, true, false, cond, List, [], ◌∷◌, map, ℕ, eqb}
use Rattle.shape.specs.Verdicts.{Says}
use Rattle.checks.specs.Answers.{Answer, served, refused, fine, ◌then◌}
use Rattle.checks.specs.Told.{told_check}
use Rattle.slots.specs.Slots.{Slot, Clashes}
use Rattle.slots.specs.Parts.{SkinsMeet, EitherInside}
use Rattle.slots.specs.Arrays.{mark_of, flat}
use Rattle.keeping.specs.Journal.{journal_of}
use Rattle.keeping.specs.declared.plates.Plate.{Plate}
use Rattle.reasons.specs.Rules.{parts_checks, shell_checks}
use Rattle.plate.specs.Histories.{History, slots_of, Call, outcome, run}
use Rattle.plate.specs.declared.calls.PlateAnswer.{PlateAnswer}

-- ---- plates
-- The plate stands for the history: its slots are the replay of the changes that stand, its count is true, and its reach and journal are
-- the history's.
pub record Stands (h : History) (p : Plate) : Type 0 where
  pub coords : p.slots.coords ≡ flat (slots_of h)
  pub parts : p.slots.marks ≡ map mark_of (slots_of h)
  pub count : Clashes (slots_of h) p.count
  pub reach : p.reach ≡ h.reach
  pub journal : p.journal ≡ journal_of 32 h.past h.reach

-- ---- the promises
-- A call as the history has it: where it is refused the answer tells why, and the plate is what it was; else the plate stands for the history
-- after it.
abbrev pub Answered : Answer History → Plate → PlateAnswer → Type 0
Answered (refused number side spot) p r = (told_check r.told ≡ refused number side spot) × (r.plate ≡ p)
Answered (served after) p r = (told_check r.told ≡ fine) × Stands after r.plate

-- Place, lift, shift and undo: whatever calls made the plate.
pub record Promise (p : Plate) (c : Call) (r : PlateAnswer) : Type 0 where
  pub kept : (before : List Call) → Stands (run before) p → Answered (outcome (run before) c) p r

-- Count.
pub record CountPromise (p : Plate) (r : ℕ) : Type 0 where
  pub read : r ≡ p.count
  pub kept : (before : List Call) → Stands (run before) p → Clashes (slots_of (run before)) r

-- What two parts that are there are answered, by whether their skins meet and whether some corner of one is inside the other: a part against itself no,
-- skins that meet yes; then 16 for p, 16 for q; and then as the corners say.
abbrev pub present_answer : List Slot → ℕ → ℕ → (skins inside : Bool) → Answer Bool
present_answer S p q skins inside = cond (eqb p q) (served false) (cond skins (served true) (shell_checks S p q then served inside))

-- Parts: 7, 10, same part, skins, 16.
pub record PartsRule (S : List Slot) (p q : ℕ) (answer : Answer Bool) : Type 0 where
  pub skins : Bool
  pub inside : Bool
  pub skins_right : Says skins (SkinsMeet S p q)
  pub inside_right : Says inside (EitherInside S p q)
  pub told : answer ≡ (parts_checks S p q then present_answer S p q skins inside)

pub record PartsPromise (plate : Plate) (p q : ℕ) (answer : Answer Bool) : Type 0 where
  pub kept : (before : List Call) → Stands (run before) plate → PartsRule (slots_of (run before)) p q answer

-- Made by these calls, the latest first: the empty plate, and whatever plate a call answers with as it promised.
pub data MadeBy : List Call → Plate → Type 0 where
  fresh : {p : Plate} → Stands (run []) p → MadeBy [] p
  after : {before : List Call} {p : Plate} {c : Call} {r : PlateAnswer} → MadeBy before p → Promise p c r → MadeBy (c ∷ before) r.plate
