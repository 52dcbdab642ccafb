-- `answering::answer::write_lines` meets its contract: the lines so far are right, whatever lines follow them. Assumes nothing.
use lib.ListN.{length}
use Rattle.answering.proofs.SheetLaws.{Begun}
use Rattle.answering.proofs.answer.write_lines.Given as goal

abbrev pub invariant-loop-field : goal.invariant-loop-field
invariant-loop-field l = Begun l.sheet l.initial.out l.plate l.rest l.end l.out

abbrev pub decreases-loop-field : goal.decreases-loop-field
decreases-loop-field l = length l.rest
