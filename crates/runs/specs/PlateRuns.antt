-- What a run of calls promises. It starts from the empty plate, and is given as three lists of numbers: call k takes three numbers of
-- `calls` from 3 * k on (its kind, and two numbers more) and nine of `numbers` from 9 * k on, and six are written into `answers` from 6 * k on.
use Rattle.std.specs.Prelude.{◌≡◌, Bool, cond, List, [], ◌∷◌, ℕ, zero, suc, ◌+◌, ◌*◌, ◌/◌, ◌≤◌, ◌<◌, min, eqb, ℤ, length, get_or, take, drop, Option, Some, None}
use Rattle.shape.specs.Points.{coord}
use Rattle.checks.specs.Answers.{Answer, number_of, side_of, place_of, with_served}
use Rattle.slots.specs.Slots.{Clashes}
use Rattle.slots.specs.Changes.{place, lift, shift}
use Rattle.plate.specs.Histories.{History, slots_of, Call, change, undo, outcome, next, run}
use Rattle.plate.specs.Plates.{Stands, Promise, PartsRule}
use Rattle.plate.specs.declared.calls.PlateAnswer.{PlateAnswer}
use Rattle.keeping.specs.declared.plates.Plate.{Plate}
use Rattle.telling.specs.Numbers.{verdict_code, without_value, value_of}
use Rattle.telling.specs.declared.numbers.Numbers.{Numbers}
use Rattle.runs.specs.declared.calls.CallAnswer.{CallAnswer}
use Rattle.runs.specs.declared.calls.Asked.{Asked}
use Rattle.runs.specs.declared.calls.Asked.TheVariants.{Place, Lift, Shift, Undo, Parts}

-- ---- what is asked
-- A call that changes the plate, the question whether two parts clash, or a kind that there is not.
pub data Ask : Type 0 where
  call : Call → Ask
  parts : (p q : ℕ) → Ask
  unknown : Ask

-- Kind 1 place (slot, part, the triangle), 2 lift (slot), 3 shift (part, the move in the first three numbers), 4 undo, 5 parts (p, q).
abbrev pub ask_of : (kind first second : ℕ) → List ℤ → Ask
ask_of kind first second numbers =
    cond (eqb kind 1) (call (change (place first second numbers)))
    (cond (eqb kind 2) (call (change (lift first)))
    (cond (eqb kind 3) (call (change (shift first (coord 0 numbers) (coord 1 numbers) (coord 2 numbers))))
    (cond (eqb kind 4) (call undo)
    (cond (eqb kind 5) (parts first second) unknown))))

-- Call k.
abbrev pub ask_at : List ℕ → List ℤ → ℕ → Ask
ask_at calls numbers k =
    ask_of (get_or calls (3 * k) 0) (get_or calls (3 * k + 1) 0) (get_or calls (3 * k + 2) 0) (take 9 (drop (9 * k) numbers))

-- The calls before call k that change the plate, refused ones included, the latest first; and the history that they made.
abbrev pub added : Ask → List Call → List Call
added (call c) before = c ∷ before
added (parts p q) before = before
added unknown before = before

unfoldable pub calls_before : List ℕ → List ℤ → ℕ → List Call
calls_before calls numbers zero = []
calls_before calls numbers (suc k) = added (ask_at calls numbers k) (calls_before calls numbers k)

abbrev pub history_before : List ℕ → List ℤ → ℕ → History
history_before calls numbers k = run (calls_before calls numbers k)

-- ---- what is answered
-- The six numbers of a call: refusal number, side, place, the true count and the reach of the history after it, and the value.
pub record Six (told : Answer ℕ) (after : History) (six : List ℕ) : Type 0 where
  pub count : ℕ
  pub true_count : Clashes (slots_of after) count
  pub are : six ≡ number_of told ∷ side_of told ∷ place_of told ∷ count ∷ after.reach ∷ value_of told ∷ []

-- Those of the question: by the one answer that is right.
pub record PartsSix (p q : ℕ) (h : History) (six : List ℕ) : Type 0 where
  pub told : Answer Bool
  pub right : PartsRule (slots_of h) p q told
  pub written : Six (with_served verdict_code told) h six

abbrev pub AskAnswered : History → Ask → List ℕ → Type 0
AskAnswered h (call c) six = Six (without_value (outcome h c)) (next h (outcome h c)) six
AskAnswered h (parts p q) six = PartsSix p q h six
AskAnswered h unknown six = ⊥

-- ---- the run
-- How many calls all three lists have room for.
abbrev pub room_for : List ℕ → List ℤ → List ℕ → ℕ
room_for calls numbers answers = min (length calls / 3) (min (length numbers / 9) (length answers / 6))

-- The result is how many calls were done: all that there is room for, or those before the first of an unknown kind. Each has its six numbers,
-- and the rest of the answers stays.
pub record PlateRun (calls : List ℕ) (numbers : List ℤ) (before : List ℕ) (result : ℕ) (after : List ℕ) : Type 0 where
  pub within : result ≤ room_for calls numbers before
  pub stopped : result < room_for calls numbers before → ask_at calls numbers result ≡ unknown
  pub answered : (k : ℕ) → k < result → AskAnswered (history_before calls numbers k) (ask_at calls numbers k) (take 6 (drop (6 * k) after))
  pub rest : drop (6 * result) after ≡ drop (6 * result) before

-- ---- for the functions inside
-- What a call asks for, as the code has decoded it, with the nine numbers of the call; and the same of a kind that may not be there.
abbrev pub ask_by : Asked → List ℤ → Ask
ask_by (Place slot part) numbers = call (change (place slot part numbers))
ask_by (Lift slot) numbers = call (change (lift slot))
ask_by (Shift part) numbers = call (change (shift part (coord 0 numbers) (coord 1 numbers) (coord 2 numbers)))
ask_by Undo numbers = call undo
ask_by (Parts p q) numbers = parts p q

abbrev pub decoded_as : Option Asked → List ℤ → Ask
decoded_as None numbers = unknown
decoded_as (Some asked) numbers = ask_by asked numbers

-- The six numbers as the code writes them: the four of the answer, with the count and the reach before the value.
abbrev pub six_of : Numbers → (count reach : ℕ) → List ℕ
six_of n count reach = n.number ∷ n.side ∷ n.place ∷ count ∷ reach ∷ n.value ∷ []

-- One call on a plate that any calls made: its six numbers are right, and the plate stands for the history after it.
pub record CallKept (ask : Ask) (plate : Plate) (r : CallAnswer) : Type 0 where
  pub answered : (before : List Call) → Stands (run before) plate →
      AskAnswered (run before) ask (six_of r.numbers r.plate.count r.plate.reach)
  pub stands : (before : List Call) → Stands (run before) plate → Stands (run (added ask before)) r.plate

-- What is made of the answer of a call that changes a plate.
pub record ChangeKept (answer : PlateAnswer) (r : CallAnswer) : Type 0 where
  pub kept : {plate : Plate} {c : Call} → Promise plate c answer → CallKept (call c) plate r
