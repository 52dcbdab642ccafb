-- Every sheet has a text. (That it has no second one stands in Unique.antt.) Assumes nothing.
use mathlib.Core.Path.{◌≡◌, refl}
use mathlib.Core.Bool.{Bool, true, false}
use mathlib.Core.List.{List, [], ◌∷◌}
use Prim.Native.Nat.{ℕ, zero, suc, ◌+◌, ◌≤◌}
use native.Mathlib.Omega.{arith}
use borrow.Author.Tests.{ltb-true, ltb-false}
use lib.Dec.{ltb}
use lib.ListN.{length, length-drop}
use Rattle.slots.proofs.Clashing.{clashes_true}
use Rattle.plate.specs.Histories.{Call}
use Rattle.std.specs.Prelude.{Option, None, Some, Result, Ok, Err}
use Rattle.checks.specs.Reasons.{number_of_reason}
use Rattle.checks.specs.declared.answer.Reason.{Reason}
use Rattle.fields.specs.declared.heads.Field.{Field}
use Rattle.fields.specs.Fields.{head_of, behind}
use Rattle.fields.proofs.Table.{none_left, head_exactly, whole_field}
use Rattle.lines.specs.Lines.{line_of}
use Rattle.answering.specs.Sheets
use Rattle.answering.specs.Sheets.{call_in, Lines, end, stop, longest, Output, long, read}

-- The bytes that are left have lines.
pub record HasLines (before : List Call) (rest : List ℕ) : Type 0 where
  pub text : List ℕ
  pub is : Lines before rest text

-- By what they begin with. A field takes three bytes at least, so what is left behind it is shorter.
by_head : (more : ℕ) → ((before : List Call) (rest : List ℕ) → length rest ≤ more → HasLines before rest) →
    (before : List Call) (rest : List ℕ) → length rest ≤ suc more → (h : Result (Option Field) Reason) → head_of rest ≡ h → HasLines before rest
by_head more later before rest few (Ok None) e = record { text = []; is = end e }
by_head more later before rest few (Err why) e = record { text = line_of (number_of_reason why) _; is = stop e (clashes_true _) }
by_head more later before rest few (Ok (Some field)) e =
    let room = (whole_field rest e).room in
    let left = later (call_in field rest ∷ before) (behind field.size rest) (omega (arith, room, few, length-drop (3 + field.size) rest)) in
    record { text = _; is = Sheets.field e (clashes_true _) left.is }

lines_exist : (most : ℕ) (before : List Call) (rest : List ℕ) → length rest ≤ most → HasLines before rest
lines_exist zero before rest few = record { text = []; is = end ((head_exactly rest).0 (none_left (omega (arith, few)))) }
lines_exist (suc most) before rest few = by_head most (lines_exist most) before rest few (head_of rest) refl

pub record HasOutput (sheet : List ℕ) : Type 0 where
  pub text : List ℕ
  pub is : Output sheet text

pub output_exists : (sheet : List ℕ) → HasOutput sheet
output_exists sheet = by_size (ltb longest (length sheet)) refl
  where
    by_size : (t : Bool) → ltb longest (length sheet) ≡ t → HasOutput sheet
    by_size true e = record { text = line_of 15 0; is = long (ltb-true longest (length sheet) e) }
    by_size false e =
        let lines = lines_exist (length sheet) [] sheet (omega arith) in
        record { text = lines.text; is = read (ltb-false longest (length sheet) e) lines.is }
