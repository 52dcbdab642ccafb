-- How large a turn can be: of three points whose coordinates are at most g in size it is at most 4 g g, the area of the square of
-- side 2 g. A careless bound on its two products says twice that. Assumes nothing.
use mathlib.Core.Path.{◌≡◌, refl, subst}
use mathlib.Core.List.{[], ◌∷◌}
use Prim.Native.Nat.{ℕ, ◌*◌, ◌≤◌, ◌<◌}
use lib.Dec.{lt→ltb}
use lib.IntN.{ℤ, pos, neg_ℤ, nat_abs, ◌-ℤ◌, ◌*ℤ◌}
use lib.Signed.{◌≤ℤ◌, ◌<ℤ◌}
use Rattle.algebra.proofs.Bound.{at_most, at_least, within_both}
use Rattle.algebra.proofs.Expression.{Ex, var, lit, neg, ◌⊟◌, ◌⊠◌}
use Rattle.algebra.proofs.Solver.{ring}
use Rattle.algebra.proofs.Certificate.{◌≦◌, ◌≺◌, hyp, num, ◌⊕◌, ◌⊗◌, prove≤}
use Rattle.shape.specs.Points.{Point, coord}
use Rattle.shape.specs.Signs.{turn_in}

-- The turn of (ai,aj), (bi,bj), (ci,cj) by its six numbers.
abbrev turn_of : ℤ → ℤ → ℤ → ℤ → ℤ → ℤ → ℤ
turn_of ai aj bi bj ci cj = (ai -ℤ ci) *ℤ (bj -ℤ cj) -ℤ (aj -ℤ cj) *ℤ (bi -ℤ ci)

-- ai bj ci aj bi cj are the variables 0 to 5, in the order of the cycle of products; g is 6.
abbrev turn_e : Ex
turn_e = (var 0 ⊟ var 2) ⊠ (var 1 ⊟ var 5) ⊟ (var 3 ⊟ var 5) ⊠ (var 4 ⊟ var 2)

-- 2 g (4 g g - turn) is a sum of eight products, each of three distances to the border of the square.
below_area : (ai bj ci aj bi cj g : ℤ) →
    neg_ℤ g ≤ℤ ai → neg_ℤ g ≤ℤ bj → neg_ℤ g ≤ℤ ci → neg_ℤ g ≤ℤ aj → neg_ℤ g ≤ℤ bi → neg_ℤ g ≤ℤ cj →
    ai ≤ℤ g → bj ≤ℤ g → ci ≤ℤ g → aj ≤ℤ g → bi ≤ℤ g → cj ≤ℤ g → pos 0 <ℤ g →
    turn_of ai aj bi bj ci cj ≤ℤ (pos 4 *ℤ (g *ℤ g))
below_area ai bj ci aj bi cj g =
    prove≤ (ai ∷ bj ∷ ci ∷ aj ∷ bi ∷ cj ∷ g ∷ [])
    ((neg (var 6) ≦ var 0) ∷ (neg (var 6) ≦ var 1) ∷ (neg (var 6) ≦ var 2) ∷ (neg (var 6) ≦ var 3) ∷ (neg (var 6) ≦ var 4) ∷ (neg (var 6) ≦ var 5)
    ∷ (var 0 ≦ var 6) ∷ (var 1 ≦ var 6) ∷ (var 2 ≦ var 6) ∷ (var 3 ≦ var 6) ∷ (var 4 ≦ var 6) ∷ (var 5 ≦ var 6) ∷ (lit (pos 0) ≺ var 6) ∷ [])
    turn_e (lit (pos 4) ⊠ (var 6 ⊠ var 6)) (num 2 ⊗ hyp 12)
    (hyp 0 ⊗ hyp 7 ⊗ hyp 8 ⊕ hyp 6 ⊗ hyp 1 ⊗ hyp 2
    ⊕ hyp 0 ⊗ hyp 2 ⊗ hyp 9 ⊕ hyp 6 ⊗ hyp 8 ⊗ hyp 3
    ⊕ hyp 0 ⊗ hyp 3 ⊗ hyp 4 ⊕ hyp 6 ⊗ hyp 9 ⊗ hyp 10
    ⊕ hyp 0 ⊗ hyp 10 ⊗ hyp 5 ⊕ hyp 6 ⊗ hyp 4 ⊗ hyp 11) tt tt refl

-- Two points trade places: the turn changes its sign.
traded : (ai aj bi bj ci cj : ℤ) → turn_of bi bj ai aj ci cj ≡ neg_ℤ (turn_of ai aj bi bj ci cj)
traded ai aj bi bj ci cj =
    ring (ai ∷ bj ∷ ci ∷ aj ∷ bi ∷ cj ∷ []) ((var 4 ⊟ var 2) ⊠ (var 3 ⊟ var 5) ⊟ (var 1 ⊟ var 5) ⊠ (var 0 ⊟ var 2)) (neg turn_e) tt refl

module _ (g : ℕ) (G : 0 < g) (ai aj bi bj ci cj : ℤ)
    (hai : nat_abs ai ≤ g) (haj : nat_abs aj ≤ g) (hbi : nat_abs bi ≤ g) (hbj : nat_abs bj ≤ g) (hci : nat_abs ci ≤ g) (hcj : nat_abs cj ≤ g) where
  one_way : turn_of ai aj bi bj ci cj ≤ℤ pos (4 * (g * g))
  one_way =
      below_area ai bj ci aj bi cj (pos g) (at_least ai g hai) (at_least bj g hbj) (at_least ci g hci) (at_least aj g haj) (at_least bi g hbi) (at_least cj g hcj)
      (at_most ai g hai) (at_most bj g hbj) (at_most ci g hci) (at_most aj g haj) (at_most bi g hbi) (at_most cj g hcj) (record { lt = lt→ltb 0 g G })

-- A turn in the coordinates i and j of points none of whose coordinates is larger than g.
pub turn_size : (a b c : Point) (g : ℕ) → 0 < g →
    ((i : ℕ) → nat_abs (coord i a) ≤ g) → ((i : ℕ) → nat_abs (coord i b) ≤ g) → ((i : ℕ) → nat_abs (coord i c) ≤ g) →
    (i j : ℕ) → nat_abs (turn_in i j a b c) ≤ 4 * (g * g)
turn_size a b c g G s r t i j =
    within_both (turn_in i j a b c) (4 * (g * g))
    (one_way g G (coord i a) (coord j a) (coord i b) (coord j b) (coord i c) (coord j c) (s i) (s j) (r i) (r j) (t i) (t j))
    (subst (λ (z : ℤ). z ≤ℤ pos (4 * (g * g))) (traded (coord i a) (coord j a) (coord i b) (coord j b) (coord i c) (coord j c))
    (one_way g G (coord i b) (coord j b) (coord i a) (coord j a) (coord i c) (coord j c) (r i) (r j) (s i) (s j) (t i) (t j)))
