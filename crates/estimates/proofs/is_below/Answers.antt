-- `estimates::is_below` meets its contract: the number in the code is the limit. Assumes nothing.
use mathlib.Core.Path.{ap}
use lib.Ieee.{Float, lt, neg}
use Rattle.estimates.proofs.Told.{limit_bits}
use Rattle.estimates.proofs.is_below.Goals as goal

pub returns : goal.returns
returns c = ap (λ (limit : Float). lt c.args.e (neg limit)) limit_bits
