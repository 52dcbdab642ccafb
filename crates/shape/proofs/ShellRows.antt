-- Rows of the definitions of shells and of inside (specs/Shells.antt, specs/Inside.antt), each by computing: which shells are closed, and which points are
-- inside. Assumes nothing.
use mathlib.Core.Path.{◌≡◌, refl}
use mathlib.Core.Bool.{true, false}
use mathlib.Core.List.{List, [], ◌∷◌, ◌++◌}
use Prim.Native.Nat.{ℕ}
use lib.IntN.{ℤ, pos, negsuc}
use lib.ListN.{drop}
use Rattle.shape.specs.Points.{Point, Shape}
use Rattle.shape.specs.Inside.{Inside}
use Rattle.shape.specs.Shells.{is_closed}
use Rattle.shape.proofs.InsideTest.{inside_says}

abbrev at : ℤ → ℤ → ℤ → Point
at x y z = x ∷ y ∷ z ∷ []

-- The point (n,n,n).
abbrev same : ℕ → Point
same n = at (pos n) (pos n) (pos n)

abbrev tetrahedron : (a b c d : Point) → List Shape
tetrahedron a b c d = (b ∷ c ∷ d ∷ []) ∷ (a ∷ c ∷ b ∷ []) ∷ (a ∷ b ∷ d ∷ []) ∷ (a ∷ d ∷ c ∷ []) ∷ []

-- From (m,m,m) to n along x, along y and along z.
abbrev up_to : (m n : ℕ) → List Shape
up_to m n = tetrahedron (same m) (at (pos n) (pos m) (pos m)) (at (pos m) (pos n) (pos m)) (at (pos m) (pos m) (pos n))

abbrev one : List Shape
one = up_to 0 12

-- Another that has the edge along x in common with it, and one that has only the corner (0,0,0).
abbrev at_edge : List Shape
at_edge = tetrahedron (same 0) (at (pos 12) (pos 0) (pos 0)) (at (pos 0) (negsuc 3) (pos 0)) (at (pos 0) (pos 0) (negsuc 3))

abbrev at_corner : List Shape
at_corner = tetrahedron (same 0) (at (negsuc 3) (pos 0) (pos 0)) (at (pos 0) (negsuc 3) (pos 0)) (at (pos 0) (pos 0) (negsuc 3))

-- ---- closed
pub closed_whole : is_closed one ≡ true
closed_whole = refl

-- A triangle missing, turned, or all of them twice.
pub open_missing : is_closed (drop 1 one) ≡ false
open_missing = refl

pub open_turned : is_closed ((at (pos 12) (pos 0) (pos 0) ∷ at (pos 0) (pos 0) (pos 12) ∷ at (pos 0) (pos 12) (pos 0) ∷ []) ∷ drop 1 one) ≡ false
open_turned = refl

pub open_twice : is_closed (one ++ one) ≡ false
open_twice = refl

-- Two shells of a part: with a corner in common, and with an edge.
pub closed_at_corner : is_closed (one ++ at_corner) ≡ true
closed_at_corner = refl

pub open_at_edge : is_closed (one ++ at_edge) ≡ false
open_at_edge = refl

-- ---- inside
-- (2,2,2) is inside and (5,5,5) is not; (2,2,2) is not where it lies in a hollow, given by an inner skin from (1,1,1) on, and (1,1,8) is.
pub inside_row : Inside (same 2) one
inside_row = (inside_says (same 2) one tt).yes refl

pub outside_row : Inside (same 5) one → ⊥
outside_row = (inside_says (same 5) one tt).no refl

pub hollow_row : Inside (same 2) (one ++ up_to 1 6) → ⊥
hollow_row = (inside_says (same 2) (one ++ up_to 1 6) tt).no refl

pub material_row : Inside (at (pos 1) (pos 1) (pos 8)) (one ++ up_to 1 6)
material_row = (inside_says (at (pos 1) (pos 1) (pos 8)) (one ++ up_to 1 6) tt).yes refl
