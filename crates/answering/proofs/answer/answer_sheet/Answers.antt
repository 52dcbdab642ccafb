-- `answering::answer::answer_sheet` meets its contract: a sheet that is too long has one line, and any other its lines. Assumes nothing.
use native.Mathlib.Omega.{arith}
use Rattle.answering.proofs.SheetLaws.{line_as, answers}
use Rattle.answering.specs.Sheets.{long, read}
use Rattle.answering.proofs.answer.answer_sheet.Goals as goal

pub returns-then-sheet-gt-LONGEST : goal.returns-then-sheet-gt-LONGEST
returns-then-sheet-gt-LONGEST c =
    let line = line_as {m = 15} 0 c.put_line.ensures c.number.ensures in
    answers c.args.out.now (long (omega arith)) (omega (arith, line.place)) line.is

pub returns : goal.returns
returns c =
    let w = c.write_lines.ensures in
    answers c.args.out.now (read (omega arith) w.right) w.size w.leaves
