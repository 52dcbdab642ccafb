-- The points and the parts of a list whose numbers are small: all on the grid, say. Assumes nothing.
use Rattle.std.proofs.Common.{◌≡◌, ℕ, zero, suc, ◌≤◌, List, [], ◌∷◌, get_or, take, drop, ℤ, pos, nat_abs, sym, subst, arith}
use Rattle.shape.specs.Points.{Point, coord, point_at}
use Rattle.exact.specs.Grid.{limit, Ready}
use Rattle.exact.specs.Vectors.{Sized}

-- The points of a list whose numbers are no larger than g.
module _ (g : ℕ) (l : List ℤ) (small : (i : ℕ) → nat_abs (get_or l i (pos 0)) ≤ g) where
  each_coordinate : (n p i : ℕ) → nat_abs (coord i (point_at n p l)) ≤ g
  each_coordinate zero p i = omega arith
  each_coordinate (suc n) p zero = small p
  each_coordinate (suc n) p (suc i) = each_coordinate n (suc p) i

  -- A point that is known to stand in the list has no larger coordinate.
  pub sized_within : {a : Point} (n p : ℕ) → a ≡ point_at n p l → Sized g a
  sized_within n p e = subst (λ (b : Point). Sized g b) (sym e) (record { each = each_coordinate n p })

-- A point of a list that was checked has no coordinate off the grid.
pub sized_point : {want : ℕ} {l : List ℤ} → Ready want l → {a : Point} (n p : ℕ) → a ≡ point_at n p l → Sized limit a
sized_point {l = l} ready = sized_within limit l ready.each

-- ---- a part of a list
-- Its numbers are no larger than those of the list.
pub small_taken : (g n : ℕ) (l : List ℤ) → ((i : ℕ) → nat_abs (get_or l i (pos 0)) ≤ g) → (i : ℕ) → nat_abs (get_or (take n l) i (pos 0)) ≤ g
small_taken g zero l small i = omega arith
small_taken g (suc n) [] small i = omega arith
small_taken g (suc n) (x ∷ l) small zero = small 0
small_taken g (suc n) (x ∷ l) small (suc i) = small_taken g n l (λ k. small (suc k)) i

pub small_dropped : (g n : ℕ) (l : List ℤ) → ((i : ℕ) → nat_abs (get_or l i (pos 0)) ≤ g) → (i : ℕ) → nat_abs (get_or (drop n l) i (pos 0)) ≤ g
small_dropped g zero l small = small
small_dropped g (suc n) [] small = small
small_dropped g (suc n) (x ∷ l) small = small_dropped g n l (λ k. small (suc k))
