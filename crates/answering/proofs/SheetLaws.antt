-- The lines of a sheet so far: with one field more, stopped at a broken field, or at the end. Assumes nothing.
use mathlib.Core.Path.{◌≡◌, refl, sym, ap, ◌∙◌, subst}
use mathlib.Core.List.{List, [], ◌∷◌, ◌++◌, append_assoc, append-nil}
use Prim.Native.Nat.{ℕ, ◌+◌, ◌*◌, ◌≤◌, ◌<◌}
use native.Mathlib.Omega.{arith}
use lib.ListN.{length, length-append, length-drop, take, drop}
use lib.Seq.{take_at, drop_at, length-take-le}
use Rattle.checks.specs.Answers.{Answer, served, refused, number_of}
use Rattle.checks.specs.Told.{told_check}
use Rattle.plate.specs.Histories.{History, Call, outcome, next, run}
use Rattle.plate.specs.Plates.{Stands, Answered, Promise}
use Rattle.plate.specs.declared.calls.PlateAnswer.{PlateAnswer}
use Rattle.keeping.specs.declared.plates.Plate.{Plate}
use Rattle.fields.specs.Tags.{length_of}
use Rattle.fields.specs.Fields.{head_of, body_of, behind}
use Rattle.std.specs.Prelude.{None, Some, Ok, Err}
use Rattle.checks.specs.Reasons.{number_of_reason}
use Rattle.checks.specs.declared.answer.Reason.{Reason}
use Rattle.fields.specs.declared.heads.Field.{Field}
use Rattle.fields.proofs.Table.{whole_field}
use Rattle.lines.specs.Laid.{laid}
use Rattle.lines.specs.Lines.{line_of}
use Rattle.lines.proofs.LineLaws.{Put, put_more, length_laid, short_line}
use Rattle.answering.specs.Sheets
use Rattle.answering.specs.Sheets.{call_in, Lines, end, stop, Output, SheetText}
use Rattle.answering.specs.Steps.{FieldPut, LinesPut}
use Rattle.answering.specs.declared.answer.Applied.{Applied}
use Rattle.answering.proofs.Small.{small_number}

-- ---- a call answered
-- What a call tells is the number of its outcome, and the plate stands for the history after it.
answered_as : {h : History} {plate : Plate} (o : Answer History) (r : PlateAnswer) → Answered o plate r → Stands h plate →
    (number_of (told_check r.told) ≡ number_of o) × Stands (next h o) r.plate
answered_as {h} (refused n s k) r (told, same) st = (ap number_of told, subst (Stands h) (sym same) st)
answered_as (served after) r (told, stands) st = (ap number_of told, stands)

pub call_told : {plate : Plate} {c : Call} (r : PlateAnswer) → Promise plate c r → (before : List Call) → Stands (run before) plate →
    (number_of (told_check r.told) ≡ number_of (outcome (run before) c)) × Stands (run (c ∷ before)) r.plate
unfolding run
call_told {c} r kept before st = answered_as (outcome (run before) c) r (kept.kept before st) st

-- A refused call leaves the plate.
unchanged : {h : History} {plate : Plate} (o : Answer History) → (number_of o ≡ 0 → ⊥) → Stands h plate → Stands (next h o) plate
unchanged (served after) ahead st = absurd (ahead refl)
unchanged (refused number side place) ahead st = st

pub refused_put : {plate : Plate} {c : Call} {out after : List ℕ} {place next number : ℕ} → (number ≡ 0 → ⊥) →
    ((before : List Call) → Stands (run before) plate → number ≡ number_of (outcome (run before) c)) →
    Put out place (line_of number plate.count) next after → FieldPut plate c out place (record { plate = plate; end = next }) after
unfolding run
refused_put {plate} {c} {out} {place} ahead is put = record {
  kept = λ before st.
      let e = is before st in
      record {
        stands = unchanged (outcome (run before) c) (λ none. ahead (e ∙ none)) st;
        place = put.place ∙ ap (λ (k : ℕ). place + length (line_of k plate.count)) e;
        is = put.is ∙ ap (λ (k : ℕ). laid out place (line_of k plate.count)) e;
      };
}

-- ---- texts in the buffer
-- A line as it was put, by the number that it has.
pub line_as : {out after : List ℕ} {at r n m : ℕ} (count : ℕ) → (r ≡ at + length (line_of n count)) × (after ≡ laid out at (line_of n count)) → n ≡ m →
    Put out at (line_of m count) r after
line_as {out} {at = at} count (place, is) e = record {
  place = place ∙ ap (λ (k : ℕ). at + length (line_of k count)) e;
  is = is ∙ ap (λ (k : ℕ). laid out at (line_of k count)) e;
}

-- A line that there is room for leaves the buffer's length.
pub line_length : (buffer : List ℕ) (place : ℕ) (line : List ℕ) {after : List ℕ} → after ≡ laid buffer place line → place + length line ≤ length buffer →
    length after ≡ length buffer
line_length buffer place line is h = ap length is ∙ length_laid buffer place line h

-- A text laid into the front of a buffer answers the sheet.
pub answers : {sheet text after : List ℕ} {r : ℕ} (before : List ℕ) → Output sheet text → r ≡ length text → after ≡ laid before 0 text → SheetText sheet before r after
answers {sheet} {text} {after} {r} before right size is =
    let behind : List ℕ = drop (0 + length text) before in
    let start : 0 + length text ≡ r = omega (arith, size) in
    record {
      within = omega (arith, size, ap length is, length-append text behind);
      right = subst (Output sheet) (sym (ap (take r) is ∙ take_at text behind r (sym size))) right;
      rest = ap (drop r) is ∙ drop_at text behind r (sym size) ∙ ap (λ (n : ℕ). drop n before) start;
    }

-- ---- the field that is next
-- Its body has the length of its tag, and less is left behind it.
pub record Ahead (rest : List ℕ) (field : Field) (body after : List ℕ) : Type 0 where
  pub some : 0 < length rest
  pub has : body ≡ body_of field.size rest
  pub leaves : after ≡ behind field.size rest
  pub size : length body ≡ length_of field.tag
  pub shorter : length after < length rest

pub ahead : {rest : List ℕ} {field : Field} {body after : List ℕ} → head_of rest ≡ Ok (Some field) →
    (body ≡ body_of field.size rest) × (after ≡ behind field.size rest) → Ahead rest field body after
ahead {rest} {field} {body} {after} e (has, leaves) =
    let whole = whole_field rest e in
    record {
      some = omega (arith, whole.room);
      has = has;
      leaves = leaves;
      size = ap length has ∙ length-take-le field.size (drop 3 rest) (omega (arith, whole.room, length-drop 3 rest)) ∙ whole.fits;
      shorter = omega (arith, ap length leaves, length-drop (3 + field.size) rest, whole.room);
    }

-- ---- the lines so far
pub record Begun (sheet out : List ℕ) (plate : Plate) (rest : List ℕ) (place : ℕ) (buffer : List ℕ) : Type 0 where
  pub calls : List Call
  pub text : List ℕ
  pub stands : Stands (run calls) plate
  pub put : Put out 0 text place buffer
  pub long : length buffer ≡ length out
  pub room : 3 * place + 8 * length rest ≤ 8 * length sheet
  pub lines : (more : List ℕ) → Lines calls rest more → Lines [] sheet (text ++ more)

pub begun : (sheet out : List ℕ) {plate : Plate} → Stands (run []) plate → Begun sheet out plate sheet 0 out
begun sheet out st = record {
  calls = [];
  text = [];
  stands = st;
  put = record { place = refl; is = refl };
  long = refl;
  room = omega arith;
  lines = λ more l. l;
}

module _ {sheet out : List ℕ} {plate : Plate} {rest : List ℕ} {place : ℕ} {buffer : List ℕ} (b : Begun sheet out plate rest place buffer) where
  -- One field more.
  pub one_more : (field : Field) {r : Applied} {left after : List ℕ} → head_of rest ≡ Ok (Some field) → left ≡ behind field.size rest →
      FieldPut plate (call_in field rest) buffer place r after → place + 8 ≤ length buffer → Begun sheet out r.plate left r.end after
  one_more field {r} {left} {after} e leaves put free =
      let c = call_in field rest in
      let kept = put.kept b.calls b.stands in
      let number = number_of (outcome (run b.calls) c) in
      let line = line_of number r.plate.count in
      let short = short_line number r.plate.count (small_number (run b.calls) c) in
      record {
        calls = c ∷ b.calls;
        text = b.text ++ line;
        stands = kept.stands;
        put = put_more (omega arith) b.put (record { place = kept.place; is = kept.is });
        long = line_length buffer place line kept.is (omega (arith, short, free)) ∙ b.long;
        room = omega (arith, (whole_field rest e).room, ap length leaves, length-drop (3 + field.size) rest, kept.place, b.room, short);
        lines = λ more l.
            subst (Lines [] sheet) (sym (append_assoc b.text line more))
            (b.lines (line ++ more) (Sheets.field e kept.stands.count (subst (λ (s : List ℕ). Lines (c ∷ b.calls) s more) leaves l)));
      }

  -- A broken field: one line more, and no other.
  pub stopped : (why : Reason) {r : ℕ} {after : List ℕ} → head_of rest ≡ Err why → Put buffer place (line_of (number_of_reason why) plate.count) r after →
      LinesPut sheet out r after
  stopped why e put =
      let all = put_more (omega arith) b.put put in
      record {
        text = b.text ++ line_of (number_of_reason why) plate.count;
        right = b.lines (line_of (number_of_reason why) plate.count) (stop e b.stands.count);
        size = omega (arith, all.place);
        leaves = all.is;
      }

  -- The end of the sheet.
  pub ended : head_of rest ≡ Ok None → LinesPut sheet out place buffer
  ended e = record {
    text = b.text;
    right = subst (Lines [] sheet) (append-nil b.text) (b.lines [] (end e));
    size = omega (arith, b.put.place);
    leaves = b.put.is;
  }

  -- Room for a line, where bytes are left.
  pub room_for_line : 0 < length rest → length sheet ≤ 65536 → 174768 ≤ length out → place + 8 ≤ length buffer
  room_for_line h few long = omega (arith, b.room, b.long)
