-- `estimates::is_above` meets its contract: the number in the code is the limit. Assumes nothing.
use mathlib.Core.Path.{ap}
use lib.Ieee.{Float, lt}
use Rattle.estimates.proofs.Told.{limit_bits}
use Rattle.estimates.proofs.is_above.Goals as goal

pub returns : goal.returns
returns c = ap (λ (limit : Float). lt limit c.args.e) limit_bits
