-- The two determinants of document 000 and their sign (document 01, "Signs"). The formula decides, not the words about a
-- right-handed screw: side (0,0,0) (1,0,0) (0,1,0) (0,0,1) is -1.
use Rattle.std.specs.Prelude.{List, [], ◌∷◌, ℕ, zero, suc, ℤ, pos, negsuc, ◌+ℤ◌, ◌-ℤ◌, ◌*ℤ◌}
use Rattle.shape.specs.Points.{Point, coord}

-- Definition 2.1 on the coordinates i and j: (ai - ci)(bj - cj) - (aj - cj)(bi - ci).
abbrev pub turn_in : ℕ → ℕ → Point → Point → Point → ℤ
turn_in i j a b c =
    (coord i a -ℤ coord i c) *ℤ (coord j b -ℤ coord j c) -ℤ (coord j a -ℤ coord j c) *ℤ (coord i b -ℤ coord i c)

-- Definition 2.1, [a,b,c]: above zero when a, b, c turn left, zero when they lie on a line.
abbrev pub turn : Point → Point → Point → ℤ
turn = turn_in 0 1

-- a - d in x, y and z: a row of the determinant.
abbrev pub row : Point → Point → Point
row a d = (coord 0 a -ℤ coord 0 d) ∷ (coord 1 a -ℤ coord 1 d) ∷ (coord 2 a -ℤ coord 2 d) ∷ []

-- The 2 by 2 minor of the rows u and v in the columns i and j.
abbrev pub minor : ℕ → ℕ → Point → Point → ℤ
minor i j u v = coord i u *ℤ coord j v -ℤ coord j u *ℤ coord i v

-- The 3 by 3 determinant with the rows u, v, w, expanded along the first.
abbrev pub determinant : Point → Point → Point → ℤ
determinant u v w = coord 0 u *ℤ minor 1 2 v w -ℤ coord 1 u *ℤ minor 0 2 v w +ℤ coord 2 u *ℤ minor 0 1 v w

-- Definition 2.2, [a,b,c,d]: the determinant whose rows are a - d, b - d, c - d.
abbrev pub side : Point → Point → Point → Point → ℤ
side a b c d = determinant (row a d) (row b d) (row c d)

-- Document 000's bracket, by the number of points: the turn of three, the side of four.
abbrev pub bracket : List Point → ℤ
bracket [] = pos 0
bracket (a ∷ []) = pos 0
bracket (a ∷ b ∷ []) = pos 0
bracket (a ∷ b ∷ c ∷ []) = turn a b c
bracket (a ∷ b ∷ c ∷ d ∷ []) = side a b c d
bracket (a ∷ b ∷ c ∷ d ∷ e ∷ more) = pos 0

-- The sign of a whole number: -1, 0 or 1.
abbrev pub sign : ℤ → ℤ
sign (pos zero) = pos 0
sign (pos (suc n)) = pos 1
sign (negsuc n) = negsuc 0

-- A sign as a digit: 0 for -1, 1 for 0, 2 for 1.
abbrev pub digit : ℤ → ℕ
digit (negsuc n) = 0
digit (pos zero) = 1
digit (pos (suc n)) = 2
