-- What is written for a job sheet (document 02, Q-2): the whole text, from the sheet's bytes alone.
use Rattle.std.specs.Prelude.{◌≡◌, List, [], ◌∷◌, ◌++◌, ℕ, ◌≤◌, ◌<◌, length, take, drop, None, Some, Ok, Err}
use Rattle.checks.specs.Answers.{number_of}
use Rattle.slots.specs.Slots.{Clashes}
use Rattle.plate.specs.Histories.{Call, slots_of, outcome, run}
use Rattle.fields.specs.Fields.{head_of, body_of, behind}
use Rattle.asking.specs.Calls.{call_of}
use Rattle.checks.specs.Reasons.{number_of_reason}
use Rattle.checks.specs.declared.answer.Reason.{Reason}
use Rattle.fields.specs.declared.heads.Field.{Field}
use Rattle.lines.specs.Lines.{line_of}

-- The call that a field at the front of the bytes that are left asks for.
abbrev pub call_in : Field → List ℕ → Call
call_in field rest = call_of field.tag (body_of field.size rest)

-- What is written for the bytes that are left, after the calls of the fields before them, the latest of which stands first.
pub data Lines : List Call → List ℕ → List ℕ → Type 0 where
  -- Nothing is left: nothing is written.
  end : {before : List Call} {rest : List ℕ} → head_of rest ≡ Ok None → Lines before rest []
  -- 13 or 14: one line, with the count as it stands, and reading stops.
  stop : {before : List Call} {rest : List ℕ} {why : Reason} {count : ℕ} → head_of rest ≡ Err why → Clashes (slots_of (run before)) count →
      Lines before rest (line_of (number_of_reason why) count)
  -- A whole field: the refusal number of its call, 0 where it is served, and the count after it; then the lines of the fields behind it.
  field : {before : List Call} {rest text : List ℕ} {field : Field} {count : ℕ} → head_of rest ≡ Ok (Some field) →
      Clashes (slots_of (run (call_in field rest ∷ before))) count →
      Lines (call_in field rest ∷ before) (behind field.size rest) text →
      Lines before rest (line_of (number_of (outcome (run before) (call_in field rest))) count ++ text)

-- The most bytes that a sheet may have.
abbrev pub longest : ℕ
longest = 65536

-- The text for a whole sheet, on an empty plate. Of one that is too long nothing is applied, and the one line is that of 15.
pub data Output (sheet : List ℕ) : List ℕ → Type 0 where
  long : longest < length sheet → Output sheet (line_of 15 0)
  read : {text : List ℕ} → length sheet ≤ longest → Lines [] sheet text → Output sheet text

-- The front of the buffer is the text, the result its length, and the rest of the buffer stays.
pub record SheetText (sheet before : List ℕ) (result : ℕ) (after : List ℕ) : Type 0 where
  pub within : result ≤ length after
  pub right : Output sheet (take result after)
  pub rest : drop result after ≡ drop result before
