-- `wide::low::low_product` meets its contract: the bits of each number are its low word, and their product, wrapped, that of the product. Assumes nothing.
use Rattle.std.proofs.Common.{ℕ, ◌*◌, ◌%◌, ◌^◌, ◌∙◌, ap, ap₂, to_z-of_z, w64, of_z}
use Rattle.wide.proofs.LowWords.{bits_low, product_low}
use Rattle.wide.proofs.low.low_product.Goals as goal

pub returns : goal.returns
returns c =
    product_low (bits_low c.args.u c.ranges.u) (bits_low c.args.v c.ranges.v)
    (ap₂ (λ (x y : ℕ). (x * y) % 2 ^ 64) (c.cast_unsigned.ensures ∙ ap (of_z w64) (to_z-of_z c.ranges.u)) (c.cast_unsigned-2.ensures ∙ ap (of_z w64) (to_z-of_z c.ranges.v)))
