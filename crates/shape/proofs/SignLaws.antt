-- The sign laws of the two determinants, stated once for plane and space by document 000's bracket over a list of points.
-- Only the first, that two neighbours trade places, and the last, on moving, look at the formulas: the others follow from
-- the first for any number of points. Assumes nothing.
use mathlib.Core.Path.{◌≡◌, refl, sym, ◌∙◌, ap}
use mathlib.Core.List.{List, [], ◌∷◌, ◌++◌, append_assoc, append-nil}
use Prim.Native.Nat.{ℕ, zero, suc}
use lib.ListN.{length}
use lib.IntN.{ℤ, pos, neg_ℤ, ◌+ℤ◌}
use Rattle.algebra.proofs.Expression.{var, lit, ◌⊞◌, neg}
use Rattle.algebra.proofs.Solver.{ring}
use Rattle.algebra.proofs.Certificate.{◌≐◌, eqn, num, prove≡}
use Rattle.shape.specs.Points.{Point, coord, moved, moved_all}
use Rattle.shape.specs.Signs.{turn, side, bracket}
use Rattle.shape.proofs.Symbols.{values, O, PointE, point, turn_of, side_of, turn_e, side_e}
use Rattle.shape.proofs.Trading.{coord_moved}

-- Two neighbours trade places: the sign turns.
pub neighbours_trade : (before : List Point) (a b : Point) (after : List Point) →
    bracket (before ++ (a ∷ b ∷ after)) ≡ neg_ℤ (bracket (before ++ (b ∷ a ∷ after)))
neighbours_trade [] a b [] = refl
neighbours_trade [] a b (c ∷ []) = ring (values (a ∷ b ∷ c ∷ [])) (turn_e 0 1 2) (neg (turn_e 1 0 2)) tt refl
neighbours_trade [] a b (c ∷ d ∷ []) = ring (values (a ∷ b ∷ c ∷ d ∷ [])) (side_e 0 1 2 3) (neg (side_e 1 0 2 3)) tt refl
neighbours_trade [] a b (c ∷ d ∷ e ∷ after) = refl
neighbours_trade (c ∷ []) a b [] = ring (values (c ∷ a ∷ b ∷ [])) (turn_e 0 1 2) (neg (turn_e 0 2 1)) tt refl
neighbours_trade (c ∷ []) a b (d ∷ []) = ring (values (c ∷ a ∷ b ∷ d ∷ [])) (side_e 0 1 2 3) (neg (side_e 0 2 1 3)) tt refl
neighbours_trade (c ∷ []) a b (d ∷ e ∷ after) = refl
neighbours_trade (c ∷ d ∷ []) a b [] = ring (values (c ∷ d ∷ a ∷ b ∷ [])) (side_e 0 1 2 3) (neg (side_e 0 1 3 2)) tt refl
neighbours_trade (c ∷ d ∷ []) a b (e ∷ after) = refl
neighbours_trade (c ∷ d ∷ e ∷ []) a b after = refl
neighbours_trade (c ∷ d ∷ e ∷ f ∷ []) a b after = refl
neighbours_trade (c ∷ d ∷ e ∷ f ∷ g ∷ before) a b after = refl

-- The sign turned n times.
abbrev pub flips : ℕ → ℤ → ℤ
flips zero z = z
flips (suc n) z = neg_ℤ (flips n z)

flips_neg : (n : ℕ) (z : ℤ) → flips n (neg_ℤ z) ≡ neg_ℤ (flips n z)
flips_neg zero z = refl
flips_neg (suc n) z = ap neg_ℤ (flips_neg n z)

-- Cycling: a point that is carried past m others turns the sign m times.
pub carry_past : (before : List Point) (a : Point) (others after : List Point) →
    bracket (before ++ (a ∷ (others ++ after))) ≡ flips (length others) (bracket (before ++ (others ++ (a ∷ after))))
carry_past before a [] after = refl
carry_past before a (b ∷ others) after =
    neighbours_trade before a b (others ++ after)
    ∙ ap (λ (xs : List Point). neg_ℤ (bracket xs)) (sym (append_assoc before (b ∷ []) (a ∷ (others ++ after))))
    ∙ ap neg_ℤ (carry_past (before ++ (b ∷ [])) a others after)
    ∙ ap (λ (xs : List Point). neg_ℤ (flips (length others) (bracket xs))) (append_assoc before (b ∷ []) (others ++ (a ∷ after)))

-- The first of m + 1 points becomes the last: nothing changes in the plane (m = 2), the sign turns in space (m = 3).
pub cycle : (a : Point) (others : List Point) → bracket (a ∷ others) ≡ flips (length others) (bracket (others ++ (a ∷ [])))
cycle a others = ap (λ (xs : List Point). bracket (a ∷ xs)) (sym (append-nil others)) ∙ carry_past [] a others []

-- Any two points trade places: the sign turns.
pub points_trade : (before : List Point) (a : Point) (between : List Point) (b : Point) (after : List Point) →
    bracket (before ++ (a ∷ (between ++ (b ∷ after)))) ≡ neg_ℤ (bracket (before ++ (b ∷ (between ++ (a ∷ after)))))
points_trade before a between b after =
    carry_past before a between (b ∷ after)
    ∙ ap (flips (length between))
    (ap bracket (sym (append_assoc before between (a ∷ b ∷ after)))
    ∙ neighbours_trade (before ++ between) a b after
    ∙ ap (λ (xs : List Point). neg_ℤ (bracket xs)) (append_assoc before between (b ∷ a ∷ after)))
    ∙ flips_neg (length between) (bracket (before ++ (between ++ (b ∷ a ∷ after))))
    ∙ ap neg_ℤ (sym (carry_past before b between (a ∷ after)))

-- What is its own opposite is zero.
own_opposite : (z : ℤ) → z ≡ neg_ℤ z → z ≡ pos 0
own_opposite z =
    prove≡ (z ∷ []) ((var 0 ≐ neg (var 0)) ∷ []) (var 0) O (num 2) (eqn 0 (lit (pos 1))) tt tt tt refl

-- Two equal points: zero.
pub equal_points : (before : List Point) (a : Point) (between after : List Point) →
    bracket (before ++ (a ∷ (between ++ (a ∷ after)))) ≡ pos 0
equal_points before a between after = own_opposite (bracket (before ++ (a ∷ (between ++ (a ∷ after))))) (points_trade before a between a after)

-- ---- moving all points by one vector
-- A determinant sees a point only through its first three coordinates.
abbrev seen : Point → Point
seen a = coord 0 a ∷ coord 1 a ∷ coord 2 a ∷ []

abbrev added : Point → Point → Point
added d a = (coord 0 d +ℤ coord 0 a) ∷ (coord 1 d +ℤ coord 1 a) ∷ (coord 2 d +ℤ coord 2 a) ∷ []

-- The same of symbols: point i moved by point 0.
abbrev added_e : ℕ → PointE
added_e i k = point 0 k ⊞ point i k

seen_moved : (d a : Point) → seen (moved d a) ≡ added d a
seen_moved d a = λ i. coord_moved 0 d a i ∷ coord_moved 1 d a i ∷ coord_moved 2 d a i ∷ []

-- Moving all points by one vector changes nothing.
pub bracket_moved : (d : Point) (xs : List Point) → bracket (moved_all d xs) ≡ bracket xs
bracket_moved d [] = refl
bracket_moved d (a ∷ []) = refl
bracket_moved d (a ∷ b ∷ []) = refl
bracket_moved d (a ∷ b ∷ c ∷ []) =
    (λ i. turn (seen_moved d a i) (seen_moved d b i) (seen_moved d c i))
    ∙ ring (values (d ∷ a ∷ b ∷ c ∷ [])) (turn_of (added_e 1) (added_e 2) (added_e 3)) (turn_e 1 2 3) tt refl
bracket_moved d (a ∷ b ∷ c ∷ e ∷ []) =
    (λ i. side (seen_moved d a i) (seen_moved d b i) (seen_moved d c i) (seen_moved d e i))
    ∙ ring (values (d ∷ a ∷ b ∷ c ∷ e ∷ [])) (side_of (added_e 1) (added_e 2) (added_e 3) (added_e 4)) (side_e 1 2 3 4) tt refl
bracket_moved d (a ∷ b ∷ c ∷ e ∷ f ∷ more) = refl
