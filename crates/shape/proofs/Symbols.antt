-- Points as symbols for the ring solver: point i of a list has the variables 3 i, 3 i + 1 and 3 i + 2, in the plane and in
-- space alike, and the determinants are written again as expressions of them. `values xs` are the numbers that the
-- variables stand for: `value (values (a ∷ b ∷ c ∷ [])) (turn_e 0 1 2)` computes to `turn a b c`. Assumes nothing.
use mathlib.Core.List.{List, [], ◌∷◌}
use Prim.Native.Nat.{ℕ, ◌+◌, ◌*◌}
use lib.IntN.{ℤ, pos}
use Rattle.algebra.proofs.Expression.{Ex, var, lit, ◌⊞◌, ◌⊟◌, ◌⊠◌}
use Rattle.shape.specs.Points.{Point, coord}

abbrev pub values : List Point → List ℤ
values [] = []
values (a ∷ xs) = coord 0 a ∷ coord 1 a ∷ coord 2 a ∷ values xs

-- Zero.
abbrev pub O : Ex
O = lit (pos 0)

-- A point as an expression for each coordinate; point i of the list.
abbrev pub PointE : Type 0
PointE = ℕ → Ex

abbrev pub point : ℕ → PointE
point i k = var (3 * i + k)

-- The determinants of such points, as in specs/Signs.antt.
abbrev pub turn_of : PointE → PointE → PointE → Ex
turn_of a b c = (a 0 ⊟ c 0) ⊠ (b 1 ⊟ c 1) ⊟ (a 1 ⊟ c 1) ⊠ (b 0 ⊟ c 0)

abbrev pub row_e : PointE → PointE → PointE
row_e a d k = a k ⊟ d k

abbrev pub minor_e : ℕ → ℕ → PointE → PointE → Ex
minor_e i j u v = u i ⊠ v j ⊟ u j ⊠ v i

abbrev pub determinant_e : PointE → PointE → PointE → Ex
determinant_e u v w = u 0 ⊠ minor_e 1 2 v w ⊟ u 1 ⊠ minor_e 0 2 v w ⊞ u 2 ⊠ minor_e 0 1 v w

abbrev pub side_of : PointE → PointE → PointE → PointE → Ex
side_of a b c d = determinant_e (row_e a d) (row_e b d) (row_e c d)

-- The same of points given by their place in the list.
abbrev pub turn_e : ℕ → ℕ → ℕ → Ex
turn_e a b c = turn_of (point a) (point b) (point c)

abbrev pub side_e : ℕ → ℕ → ℕ → ℕ → Ex
side_e a b c d = side_of (point a) (point b) (point c) (point d)

abbrev pub bracket_e : List ℕ → Ex
bracket_e [] = O
bracket_e (a ∷ []) = O
bracket_e (a ∷ b ∷ []) = O
bracket_e (a ∷ b ∷ c ∷ []) = turn_e a b c
bracket_e (a ∷ b ∷ c ∷ d ∷ []) = side_e a b c d
bracket_e (a ∷ b ∷ c ∷ d ∷ e ∷ more) = O
