-- `exact::levels::rough_of` meets its contract: each coordinate of the grid is kept as it is. Assumes nothing.
use Rattle.algebra.proofs.Machine.{size}
use Rattle.exact.proofs.Readings.{coordinate}
use Rattle.exact.proofs.levels.rough_of.Goals as goal

pub double_of-requires : goal.double_of-requires
double_of-requires c = (size (coordinate tt c.args.a.on_grid 0)).abs

pub double_of-requires-2 : goal.double_of-requires-2
double_of-requires-2 c = (size (coordinate tt c.args.a.on_grid 1)).abs

pub double_of-requires-3 : goal.double_of-requires-3
double_of-requires-3 c = (size (coordinate tt c.args.a.on_grid 2)).abs
