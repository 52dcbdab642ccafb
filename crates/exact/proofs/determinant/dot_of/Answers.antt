-- `exact::determinant::dot_of` meets its contract: both sums fit two words, and the result is the product of the two vectors. Assumes nothing.
use Rattle.std.proofs.Common.{◌∙◌}
use Rattle.exact.proofs.Products.{factor_small, two_products, three_products, small}
use Rattle.exact.proofs.determinant.dot_of.Goals as goal

pub scaled-x-requires : goal.scaled-x-requires
scaled-x-requires c =
    let u = c.args.u.of_grid in
    let n = c.args.n.of_grid in
    factor_small u n 0

pub scaled-y-requires : goal.scaled-y-requires
scaled-y-requires c =
    let u = c.args.u.of_grid in
    let n = c.args.n.of_grid in
    factor_small u n 1

pub scaled-z-requires : goal.scaled-z-requires
scaled-z-requires c =
    let u = c.args.u.of_grid in
    let n = c.args.n.of_grid in
    factor_small u n 2

pub add-requires : goal.add-requires
add-requires c =
    let u = c.args.u.of_grid in
    let n = c.args.n.of_grid in
    let x = c.scaled-x.ensures in
    let y = c.scaled-y.ensures in
    small (two_products u n 0 1 x y) tt

pub add-requires-2 : goal.add-requires-2
add-requires-2 c =
    let u = c.args.u.of_grid in
    let n = c.args.n.of_grid in
    let x = c.scaled-x.ensures in
    let y = c.scaled-y.ensures in
    let z = c.scaled-z.ensures in
    small (three_products u n 0 1 x y 2 z c.add.ensures) tt

pub returns : goal.returns
returns c =
    let u = c.args.u.of_grid in
    let n = c.args.n.of_grid in
    let x = c.scaled-x.ensures in
    let y = c.scaled-y.ensures in
    let z = c.scaled-z.ensures in
    c.add-2.ensures ∙ (three_products u n 0 1 x y 2 z c.add.ensures).is
