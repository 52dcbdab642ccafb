-- For n, all coordinates taken n times n and the point moved, the turns and the side that decide whether a triangle is ahead are a power of n times a
-- polynomial in n. No law here leans on another. Assumes nothing.
use mathlib.Core.Path.{◌≡◌, refl}
use mathlib.Core.List.{List, [], ◌∷◌}
use Prim.Native.Nat.{ℕ, zero, suc}
use lib.IntN.{ℤ, pos, ◌+ℤ◌, ◌*ℤ◌}
use Rattle.algebra.proofs.Expression.{Ex, var, lit, ◌⊞◌, ◌⊟◌, ◌⊠◌}
use Rattle.algebra.proofs.Solver.{ring}
use Rattle.shape.specs.Points.{Point, coord}
use Rattle.shape.specs.Signs.{turn_in, side}
use Rattle.shape.specs.Inside.{square, enlarged, nudged, shadow_of}
use Rattle.shape.specs.InsideTest.{edge_numbers, plane_numbers}
use Rattle.shape.proofs.Symbols.{O, PointE, point, minor_e, row_e, side_of}
use Rattle.shape.proofs.Eventually.{at}
use Rattle.shape.proofs.AheadAt.{turn_in_e}

-- The polynomials of the edge u → v and of the plane.
abbrev pub edge_at : ℕ → (p u v : Point) → ℤ
edge_at n p u v = at n (edge_numbers (shadow_of u) (shadow_of v) (shadow_of p))

abbrev pub plane_at : ℕ → (p a b c : Point) → ℤ
plane_at n p a b c = at n (plane_numbers a b c p)

module _ (n : ℕ) (p a b c : Point) where
  abbrev ρ : List ℤ
  ρ = coord 0 a ∷ coord 1 a ∷ coord 2 a ∷ coord 0 b ∷ coord 1 b ∷ coord 2 b ∷ coord 0 c ∷ coord 1 c ∷ coord 2 c
      ∷ coord 0 p ∷ coord 1 p ∷ coord 2 p ∷ pos n ∷ []

  abbrev n1 : Ex
  n1 = var 12

  abbrev n2 : Ex
  n2 = n1 ⊠ n1

  -- Point i enlarged, and the point moved.
  abbrev large_e : ℕ → PointE
  large_e i j = n2 ⊠ point i j

  abbrev moved_e : PointE
  moved_e zero = n2 ⊠ point 3 0
  moved_e (suc zero) = n2 ⊠ point 3 1 ⊞ n1
  moved_e (suc (suc k)) = n2 ⊠ point 3 2 ⊞ lit (pos 1)

  -- A polynomial, by Horner's rule.
  abbrev three_e : Ex → Ex → Ex → Ex
  three_e x y z = ((O ⊠ n1 ⊞ x) ⊠ n1 ⊞ y) ⊠ n1 ⊞ z

  abbrev edge_e : ℕ → ℕ → Ex
  edge_e i j = three_e (turn_in_e 1 2 (point i) (point j) (point 3)) (point i 2 ⊟ point j 2) (point j 1 ⊟ point i 1)

  abbrev normal_e : ℕ → ℕ → Ex
  normal_e i j = minor_e i j (row_e (point 0) (point 2)) (row_e (point 1) (point 2))

  abbrev plane_e : Ex
  plane_e = three_e (side_of (point 0) (point 1) (point 2) (point 3)) (O ⊟ normal_e 2 0) (O ⊟ normal_e 0 1)

  pub large_shadow : turn_in 1 2 (enlarged n a) (enlarged n b) (enlarged n c) ≡ square n *ℤ square n *ℤ turn_in 1 2 a b c
  large_shadow = ring ρ (turn_in_e 1 2 (large_e 0) (large_e 1) (large_e 2)) (n2 ⊠ n2 ⊠ turn_in_e 1 2 (point 0) (point 1) (point 2)) tt refl

  pub large_edge : turn_in 1 2 (enlarged n a) (enlarged n b) (nudged n p) ≡ square n *ℤ edge_at n p a b
  large_edge = ring ρ (turn_in_e 1 2 (large_e 0) (large_e 1) moved_e) (n2 ⊠ edge_e 0 1) tt refl

  pub large_plane : side (enlarged n a) (enlarged n b) (enlarged n c) (nudged n p) ≡ square n *ℤ square n *ℤ plane_at n p a b c
  large_plane = ring ρ (side_of (large_e 0) (large_e 1) (large_e 2) moved_e) (n2 ⊠ n2 ⊠ plane_e) tt refl

  pub edges_sum : edge_at n p a b +ℤ edge_at n p b c +ℤ edge_at n p c a ≡ square n *ℤ turn_in 1 2 a b c
  edges_sum = ring ρ (edge_e 0 1 ⊞ edge_e 1 2 ⊞ edge_e 2 0) (n2 ⊠ turn_in_e 1 2 (point 0) (point 1) (point 2)) tt refl
