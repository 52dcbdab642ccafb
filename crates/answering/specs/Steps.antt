-- What the functions inside take for granted and promise. No public promise speaks of it.
use Rattle.std.specs.Prelude.{◌≡◌, List, [], ◌∷◌, ℕ, ◌+◌, length}
use Rattle.checks.specs.Answers.{number_of}
use Rattle.plate.specs.Histories.{Call, outcome, run}
use Rattle.plate.specs.Plates.{Stands}
use Rattle.keeping.specs.declared.plates.Plate.{Plate}
use Rattle.lines.specs.Laid.{laid}
use Rattle.lines.specs.Lines.{line_of}
use Rattle.answering.specs.Sheets.{Lines}
use Rattle.answering.specs.declared.answer.Applied.{Applied}

-- Some calls made the plate.
pub record Standing (p : Plate) : Type 0 where
  pub calls : List Call
  pub stands : Stands (run calls) p

-- A field put to the plate: the plate after it, and its line behind what was written.
pub record FieldKept (p : Plate) (c : Call) (out : List ℕ) (end : ℕ) (r : Applied) (after : List ℕ) (before : List Call) : Type 0 where
  pub stands : Stands (run (c ∷ before)) r.plate
  pub place : r.end ≡ end + length (line_of (number_of (outcome (run before) c)) r.plate.count)
  pub is : after ≡ laid out end (line_of (number_of (outcome (run before) c)) r.plate.count)

pub record FieldPut (p : Plate) (c : Call) (out : List ℕ) (end : ℕ) (r : Applied) (after : List ℕ) : Type 0 where
  pub kept : (before : List Call) → Stands (run before) p → FieldKept p c out end r after before

-- The lines of a sheet of the right size, written from the buffer's front on.
pub record LinesPut (sheet before : List ℕ) (result : ℕ) (after : List ℕ) : Type 0 where
  pub text : List ℕ
  pub right : Lines [] sheet text
  pub size : result ≡ length text
  pub leaves : after ≡ laid before 0 text
