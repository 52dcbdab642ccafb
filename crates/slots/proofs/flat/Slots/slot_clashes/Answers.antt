-- `slots::flat::Slots::slot_clashes` meets its contract: on slots that accepted changes left the coordinates are on the grid. Assumes nothing.
use Rattle.std.proofs.Common.{rules}
use Rattle.slots.proofs.Asked.{asked}
use Rattle.slots.proofs.flat.Slots.slot_clashes.Goals as goal

pub returns : goal.returns
returns c = λ S h. asked h c.on_grid.result c.on_grid.ensures _ _ c.map_or.ensures (λ on g told. search rules)
