-- `slots::flat::Slots::marks_strike` meets its contract: on slots that accepted changes left the coordinates are on the grid. Assumes nothing.
use Rattle.std.proofs.Common.{sym, subst}
use Rattle.slots.specs.Showing.{Shown}
use Rattle.slots.specs.declared.flat.Slots.{Slots}
use Rattle.slots.proofs.Grids.{never_off}
use Rattle.slots.proofs.flat.Slots.marks_strike.Goals as goal

pub returns-in-Some : goal.returns-in-Some
returns-in-Some c = λ S h. c.marks_strike.ensures S (subst (λ (s : Slots). Shown S s.coords s.marks) (sym c.in-Some.ensures) h)

pub returns-in-None : goal.returns-in-None
returns-in-None c = λ S h. absurd (never_off h c.in-None.ensures)
