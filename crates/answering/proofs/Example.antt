-- The text of the request's example is the one that it states: by the definitions, and not by any code. Assumes nothing.
use mathlib.Core.Path.{refl}
use native.Mathlib.Omega.{arith}
use Rattle.slots.specs.Changes.{apply, replay}
use Rattle.slots.specs.Counting.{meets, strikes, hit, row, tally}
use Rattle.slots.proofs.Clashing.{clashes_true}
use Rattle.reasons.specs.Rules.{change_checks}
use Rattle.plate.specs.Histories.{outcome, run}
use Rattle.packing.specs.Reading.{numbers_in}
use Rattle.fields.specs.Fields.{head_of}
use Rattle.asking.specs.Calls.{call_of}
use Rattle.lines.specs.Lines.{decimal, line_of}
use Rattle.answering.specs.Example.{example, example_text}
use Rattle.answering.specs.Sheets.{Output, read, end, field}

pub example_text_law : Output example example_text
unfolding numbers_in head_of call_of change_checks apply replay outcome run meets strikes hit row tally decimal line_of
example_text_law =
    read (omega arith)
    (field refl (clashes_true _)
    (field refl (clashes_true _)
    (field refl (clashes_true _)
    (field refl (clashes_true _)
    (field refl (clashes_true _)
    (end refl))))))
