-- The products of a row of differences and a normal, as the pairs of words that the code holds: what each is worth, and that their sums fit. And how
-- large a side of four points of the grid can be. Assumes nothing.
use Rattle.std.proofs.Common.{◌≡◌, ℕ, ◌+◌, ◌*◌, ◌^◌, ◌<◌, ◌≤◌, T, leb, ℤ, ◌+ℤ◌, ◌*ℤ◌, nat_abs, ◌∙◌, subst, le_trans, arith, lit≤}
use lib.IntN.{*ℤ_comm}
use Rattle.algebra.proofs.Bound.{Within, within_add, within_mul}
use Rattle.algebra.proofs.Machine.{Reads, size, sum, product}
use Rattle.shape.specs.Points.{Point, coord}
use Rattle.shape.specs.Signs.{side, row}
use Rattle.shape.specs.Normals.{dot, normal_of}
use Rattle.shape.proofs.Planes.{side_by_normal}
use Rattle.wide.specs.Sums.{Small}
use Rattle.exact.specs.Grid.{limit}
use Rattle.exact.specs.Vectors.{Sized, difference_size, minor_size}
use Rattle.exact.proofs.Readings.{kept, coordinate, sized_row, sized_normal}

-- A value that is the one of another reading.
same_value : {v w z : ℤ} {n : ℕ} → v ≡ w → Reads w z n → Reads v z n
same_value e r = record { is = e ∙ r.is; within = r.within }

-- A sum up to 2^126 in size fits.
pub small : {v z : ℤ} {n : ℕ} → Reads v z n → T (leb n (2 ^ 126)) → Small v
small r t = le_trans (size r).abs (lit≤ t)

abbrev product_size : ℕ
product_size = difference_size * minor_size

module _ {u n : Point} (s : Sized difference_size u) (r : Sized minor_size n) where
  -- The factor of a product that has to be at most 2^31 in size.
  pub factor_small : (i : ℕ) → nat_abs (kept (coord i u)) ≤ 2 ^ 31
  factor_small i = (size (coordinate tt s i)).abs

  -- A value that is the product of coordinate i of the two, as the machine reads them.
  one_product : {v : ℤ} (i : ℕ) → v ≡ kept (coord i n) *ℤ kept (coord i u) → Reads v (coord i u *ℤ coord i n) product_size
  one_product i e = same_value (e ∙ *ℤ_comm (kept (coord i n)) (kept (coord i u))) (product (coordinate tt s i) (coordinate tt r i))

  -- Two of them added up, and three.
  module _ {x y : ℤ} (i j : ℕ) (e : x ≡ kept (coord i n) *ℤ kept (coord i u)) (f : y ≡ kept (coord j n) *ℤ kept (coord j u)) where
    pub two_products : Reads (x +ℤ y) (coord i u *ℤ coord i n +ℤ coord j u *ℤ coord j n) (product_size + product_size)
    two_products = sum (one_product i e) (one_product j f)

    pub three_products : {z t : ℤ} (k : ℕ) → z ≡ kept (coord k n) *ℤ kept (coord k u) → t ≡ x +ℤ y →
        Reads (t +ℤ z) (coord i u *ℤ coord i n +ℤ coord j u *ℤ coord j n +ℤ coord k u *ℤ coord k n) (product_size + product_size + product_size)
    three_products k g h = sum (same_value h two_products) (one_product k g)

-- ---- how large a side of four points of the grid can be: it stays below 2^96, which two words hold
pub side_below : {a b c d : Point} → Sized limit a → Sized limit b → Sized limit c → Sized limit d → nat_abs (side a b c d) < 2 ^ 96
side_below {a} {b} {c} {d} sa sb sc sd = subst (λ (z : ℤ). nat_abs z < 2 ^ 96) (side_by_normal a b c d) (omega (arith, dot_size.abs))
  where
    one : (i : ℕ) → Within product_size (coord i (row c d) *ℤ coord i (normal_of a b c))
    one i = within_mul {a = coord i (row c d)} {b = coord i (normal_of a b c)} (record { abs = (sized_row sc sd).each i }) (record { abs = (sized_normal sa sb sc).each i })

    dot_size : Within (product_size + product_size + product_size) (dot (row c d) (normal_of a b c))
    dot_size = within_add (within_add (one 0) (one 1)) (one 2)
