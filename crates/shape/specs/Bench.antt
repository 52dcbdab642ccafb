-- The bench rows that are proved (document 01, "Bench pieces", rows marked P, and row 12 as document 02's Q-1 has it), as one table: a row is its
-- input and its result. proofs/Bench.antt has the one theorem that every row holds of the definitions.
use Rattle.std.specs.Prelude.{◌≡◌, Bool, true, false, List, [], ◌∷◌, ℕ, suc, ℤ, pos, negsuc, neg_ℤ}
use Rattle.shape.specs.Points.{points_at}
use Rattle.shape.specs.Signs.{bracket, sign}
use Rattle.shape.specs.Sharing.{Share}
use Rattle.shape.specs.Verdicts.{Says}

pub data Row : Type 0 where
  -- n + 1 points of n coordinates as one list of numbers; their determinant; its sign
  determinant_row : (n : ℕ) (numbers : List ℤ) (value its_sign : ℤ) → Row
  -- two shapes in n coordinates, of k and of m corners, each as one list of numbers; whether they have a point in common
  verdict_row : (n k m : ℕ) (first second : List ℤ) (verdict : Bool) → Row

-- What it is for a row to hold.
abbrev pub Holds : Row → Type 0
Holds (determinant_row n numbers value its_sign) =
    (bracket (points_at n (suc n) 0 numbers) ≡ value) × (sign value ≡ its_sign)
Holds (verdict_row n k m first second verdict) = Says verdict (Share n (points_at n k 0 first) (points_at n m 0 second))

abbrev pub AllHold : List Row → Type 0
AllHold [] = Unit {0}
AllHold (r ∷ rs) = Holds r × AllHold rs

-- A is (0,0,0) (4,0,0) (0,4,0).
abbrev pub A : List ℤ
A = pos 0 ∷ pos 0 ∷ pos 0 ∷ pos 4 ∷ pos 0 ∷ pos 0 ∷ pos 0 ∷ pos 4 ∷ pos 0 ∷ []

-- P1: A and (1,1,-1) (1,1,1) (5,5,1) meet.
abbrev pub row_P1 : Row
row_P1 = verdict_row 3 3 3 A (pos 1 ∷ pos 1 ∷ negsuc 0 ∷ pos 1 ∷ pos 1 ∷ pos 1 ∷ pos 5 ∷ pos 5 ∷ pos 1 ∷ []) true

-- P2: A and (1,1,1) (2,1,1) (1,2,1) do not.
abbrev pub row_P2 : Row
row_P2 = verdict_row 3 3 3 A (pos 1 ∷ pos 1 ∷ pos 1 ∷ pos 2 ∷ pos 1 ∷ pos 1 ∷ pos 1 ∷ pos 2 ∷ pos 1 ∷ []) false

-- P3: A and (4,0,0) (5,0,1) (5,1,1) have one corner in common.
abbrev pub row_P3 : Row
row_P3 = verdict_row 3 3 3 A (pos 4 ∷ pos 0 ∷ pos 0 ∷ pos 5 ∷ pos 0 ∷ pos 1 ∷ pos 5 ∷ pos 1 ∷ pos 1 ∷ []) true

-- P4: A and (0,0,0) (4,0,0) (0,-4,0) have one edge in common.
abbrev pub row_P4 : Row
row_P4 = verdict_row 3 3 3 A (pos 0 ∷ pos 0 ∷ pos 0 ∷ pos 4 ∷ pos 0 ∷ pos 0 ∷ pos 0 ∷ negsuc 3 ∷ pos 0 ∷ []) true

-- P5: (1,1,0) (2,1,0) (1,2,0) lies inside (0,0,0) (10,0,0) (0,10,0).
abbrev pub row_P5 : Row
row_P5 =
    verdict_row 3 3 3
    (pos 0 ∷ pos 0 ∷ pos 0 ∷ pos 10 ∷ pos 0 ∷ pos 0 ∷ pos 0 ∷ pos 10 ∷ pos 0 ∷ [])
    (pos 1 ∷ pos 1 ∷ pos 0 ∷ pos 2 ∷ pos 1 ∷ pos 0 ∷ pos 1 ∷ pos 2 ∷ pos 0 ∷ [])
    true

-- P6: A and (3,3,0) (5,3,0) (3,5,0) lie in one plane and do not meet.
abbrev pub row_P6 : Row
row_P6 = verdict_row 3 3 3 A (pos 3 ∷ pos 3 ∷ pos 0 ∷ pos 5 ∷ pos 3 ∷ pos 0 ∷ pos 3 ∷ pos 5 ∷ pos 0 ∷ []) false

-- P7: A and (2,3,-1) (2,3,1) (5,5,0) do not meet, though each straddles the other's plane.
abbrev pub row_P7 : Row
row_P7 = verdict_row 3 3 3 A (pos 2 ∷ pos 3 ∷ negsuc 0 ∷ pos 2 ∷ pos 3 ∷ pos 1 ∷ pos 5 ∷ pos 5 ∷ pos 0 ∷ []) false

-- P8: A meets itself.
abbrev pub row_P8 : Row
row_P8 = verdict_row 3 3 3 A A true

-- P9: the segment (0,0,0) (1,0,0), an edge's part, and A meet.
abbrev pub row_P9 : Row
row_P9 = verdict_row 3 2 3 (pos 0 ∷ pos 0 ∷ pos 0 ∷ pos 1 ∷ pos 0 ∷ pos 0 ∷ []) A true

-- P10: the turn of (0,0) (4,0) (0,4) is 16, to the left.
abbrev pub row_P10 : Row
row_P10 = determinant_row 2 (pos 0 ∷ pos 0 ∷ pos 4 ∷ pos 0 ∷ pos 0 ∷ pos 4 ∷ []) (pos 16) (pos 1)

-- P11's L. The row keeps it, though the grid has grown since (Q-6).
abbrev pub L : ℤ
L = pos 524288

-- P11: with L = 524,288 the side of (L,L,-L) (L,-L,L) (-L,L,L) (-L,-L,-L) is -2^61.
abbrev pub row_P11 : Row
row_P11 =
    determinant_row 3
    (L ∷ L ∷ neg_ℤ L ∷ L ∷ neg_ℤ L ∷ L ∷ neg_ℤ L ∷ L ∷ L ∷ neg_ℤ L ∷ neg_ℤ L ∷ neg_ℤ L ∷ [])
    (neg_ℤ (pos 2305843009213693952))
    (negsuc 0)

-- 12: the segment that the flat triangle (0,0,0) (1,1,1) (2,2,2) is and A meet.
abbrev pub row_12 : Row
row_12 = verdict_row 3 3 3 (pos 0 ∷ pos 0 ∷ pos 0 ∷ pos 1 ∷ pos 1 ∷ pos 1 ∷ pos 2 ∷ pos 2 ∷ pos 2 ∷ []) A true

-- The table.
abbrev pub rows : List Row
rows =
    row_P1 ∷ row_P2 ∷ row_P3 ∷ row_P4 ∷ row_P5 ∷ row_P6 ∷ row_P7 ∷ row_P8 ∷ row_P9 ∷ row_P10 ∷ row_P11 ∷ row_12 ∷ []
