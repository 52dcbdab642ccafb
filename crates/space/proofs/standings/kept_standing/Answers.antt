-- `space::standings::kept_standing` meets its contract: the rows are the normal and the plane of the list, and the pattern of the two lists names the standing. Assumes
-- nothing.
use mathlib.Core.Path.{sym, ap, subst}
use lib.ListN.{length}
use Rattle.space.proofs.SpaceLaws.{sized_normal_in}
use Rattle.exact.specs.Sizes.{Sized, minor_size}
use Rattle.space.proofs.standings.kept_standing.Goals as goal

pub normal_in-requires : goal.normal_in-requires
normal_in-requires c = (ap length c.requires.2, subst (Sized minor_size) (sym c.requires.2) (sized_normal_in c.requires.1))
