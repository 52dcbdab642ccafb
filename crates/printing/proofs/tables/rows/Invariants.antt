-- `printing::tables::rows` ends: what is left of the table grows shorter with each row. Assumes nothing.
use Rattle.std.proofs.Common.{length}
use Rattle.printing.proofs.tables.rows.Given as goal

abbrev pub decreases-loop-rest : goal.decreases-loop-rest
decreases-loop-rest g l = length l.rest
