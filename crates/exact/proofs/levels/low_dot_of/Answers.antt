-- `exact::levels::low_dot_of` meets its contract: the low words of three products add up to that of their sum. Assumes nothing.
use Rattle.std.proofs.Common.{refl, rules}
use Rattle.exact.proofs.Holding.{product_read}
use Rattle.wide.proofs.LowWords.{sum_low}
use Rattle.exact.proofs.levels.low_dot_of.Goals as goal

pub returns : goal.returns
returns c =
    let s = c.args in
    let x = product_read s.u.x s.n.x (search rules) (search rules) c.low_product-x.ensures in
    let y = product_read s.u.y s.n.y (search rules) (search rules) c.low_product-y.ensures in
    let z = product_read s.u.z s.n.z (search rules) (search rules) c.low_product-z.ensures in
    sum_low (sum_low x y refl) z refl
