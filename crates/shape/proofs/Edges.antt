-- Which side of a line a point lies on, how that carries over from one point to others, and the certificate behind every "no" of
-- the tests in the plane: one shape lies strictly right of a line that the other is nowhere strictly right of. Assumes nothing.
use mathlib.Core.Path.{refl}
use mathlib.Core.List.{List, [], ◌∷◌}
use native.Mathlib.Omega.{arith}
use lib.IntN.{ℤ, pos, ◌-ℤ◌, ◌*ℤ◌}
use lib.Signed.{◌≤ℤ◌, ◌<ℤ◌}
use Prim.Native.Nat.{ℕ}
use Rattle.algebra.proofs.Expression.{Ex, ◌⊞◌, ◌⊟◌, ◌⊠◌}
use Rattle.algebra.proofs.Order.{weak}
use Rattle.algebra.proofs.Certificate.{Rel, ◌≦◌, ◌≺◌, hyp, num, ◌⊕◌, ◌⊗◌, prove≤, prove<}
use Rattle.shape.specs.Points.{Point, Shape, coord}
use Rattle.shape.specs.Signs.{turn}
use Rattle.shape.specs.Sharing.{Share}
use Rattle.shape.proofs.Symbols.{values, O, point, turn_e}
use Rattle.shape.proofs.Weights.{Every, every_so}
use Rattle.shape.proofs.Apart.{functional, apart}

-- c lies strictly right of a → b; it does not; it lies strictly left, so that a, b, c turn left; it does not.
abbrev pub Right : Point → Point → Point → Type 0
Right a b c = turn a b c <ℤ pos 0

abbrev pub NotRight : Point → Point → Point → Type 0
NotRight a b c = pos 0 ≤ℤ turn a b c

abbrev pub Left : Point → Point → Point → Type 0
Left a b c = pos 0 <ℤ turn a b c

abbrev pub NotLeft : Point → Point → Point → Type 0
NotLeft a b c = turn a b c ≤ℤ pos 0

-- The same for certificates, of points by their place in the list of symbols.
abbrev pub right_e : ℕ → ℕ → ℕ → Rel
right_e a b c = turn_e a b c ≺ O

abbrev pub not_right_e : ℕ → ℕ → ℕ → Rel
not_right_e a b c = O ≦ turn_e a b c

abbrev pub left_e : ℕ → ℕ → ℕ → Rel
left_e a b c = O ≺ turn_e a b c

-- ---- the same three points in another order: turned by one, turned back by one, and mirrored
module _ (a b c : Point) where
  abbrev three : List ℤ
  three = values (a ∷ b ∷ c ∷ [])

  pub right_on : Right a b c → Right b c a
  right_on = prove< three (right_e 0 1 2 ∷ []) (turn_e 1 2 0) O (num 1) (hyp 0) tt tt refl

  pub right_back : Right a b c → Right c a b
  right_back = prove< three (right_e 0 1 2 ∷ []) (turn_e 2 0 1) O (num 1) (hyp 0) tt tt refl

  pub not_right_on : NotRight a b c → NotRight b c a
  not_right_on = prove≤ three (not_right_e 0 1 2 ∷ []) O (turn_e 1 2 0) (num 1) (hyp 0) tt tt refl

  pub not_right_back : NotRight a b c → NotRight c a b
  not_right_back = prove≤ three (not_right_e 0 1 2 ∷ []) O (turn_e 2 0 1) (num 1) (hyp 0) tt tt refl

  pub left_on : Left a b c → Left b c a
  left_on = prove< three (left_e 0 1 2 ∷ []) O (turn_e 1 2 0) (num 1) (hyp 0) tt tt refl

  pub left_back : Left a b c → Left c a b
  left_back = prove< three (left_e 0 1 2 ∷ []) O (turn_e 2 0 1) (num 1) (hyp 0) tt tt refl

  pub right_mirrored : Right a b c → Left a c b
  right_mirrored = prove< three (right_e 0 1 2 ∷ []) O (turn_e 0 2 1) (num 1) (hyp 0) tt tt refl

  pub not_right_mirrored : NotRight a b c → NotLeft a c b
  not_right_mirrored = prove≤ three (not_right_e 0 1 2 ∷ []) (turn_e 0 2 1) O (num 1) (hyp 0) tt tt refl

-- ---- u → v leaves the right side of the line x → y
module _ (x y u v : Point) (past : Right x y u) (back : NotRight x y v) where
  abbrev four : List ℤ
  four = values (x ∷ y ∷ u ∷ v ∷ [])

  -- Where x is right of u → v, so is y;
  pub right_carries : Right u v x → Right u v y
  right_carries =
      prove< four (right_e 0 1 2 ∷ not_right_e 0 1 3 ∷ right_e 2 3 0 ∷ []) (turn_e 2 3 1) O (num 1) (hyp 0 ⊕ hyp 1 ⊕ hyp 2) tt tt refl past back

  -- and where y is right of v → u, so is x.
  pub left_carries : Right v u y → Right v u x
  left_carries =
      prove< four (right_e 0 1 2 ∷ not_right_e 0 1 3 ∷ right_e 3 2 1 ∷ []) (turn_e 3 2 0) O (num 1) (hyp 0 ⊕ hyp 1 ⊕ hyp 2) tt tt refl past back

-- The line is the edge c → a of a triangle that turns left. All of the triangle is right of u → v where c is and u is not past
-- the edge b → c; all of it is left, that is, right of v → u, where a is and u is not past the edge a → b.
module _ (u v a b c : Point) (left : Left a b c) (past : Right c a u) (back : NotRight c a v) where
  abbrev five : List ℤ
  five = values (u ∷ v ∷ a ∷ b ∷ c ∷ [])

  pub all_right : NotRight b c u → Right u v c → Every (Right u v) (a ∷ b ∷ c ∷ [])
  all_right other h = (
    right_carries c a u v past back h,
    (
      prove< five (left_e 2 3 4 ∷ not_right_e 3 4 0 ∷ right_e 4 2 0 ∷ not_right_e 4 2 1 ∷ right_e 0 1 4 ∷ []) (turn_e 0 1 3) O
          (hyp 2) (hyp 0 ⊗ hyp 4 ⊕ hyp 1 ⊗ hyp 2 ⊕ hyp 1 ⊗ hyp 3 ⊕ hyp 2 ⊗ hyp 4) tt tt refl left other past back h,
      (h, tt),
    ),
  )

  pub all_left : NotRight a b u → Right v u a → Every (Right v u) (a ∷ b ∷ c ∷ [])
  all_left other h = (
    h,
    (
      prove< five (left_e 2 3 4 ∷ not_right_e 2 3 0 ∷ right_e 4 2 0 ∷ not_right_e 4 2 1 ∷ right_e 1 0 2 ∷ []) (turn_e 1 0 3) O
          (hyp 2) (hyp 0 ⊗ hyp 4 ⊕ hyp 1 ⊗ hyp 2 ⊕ hyp 1 ⊗ hyp 3 ⊕ hyp 2 ⊗ hyp 4) tt tt refl left other past back h,
      (left_carries c a u v past back h, tt),
    ),
  )

-- ---- apart by a line
-- No corner of P lies strictly right of a → b, every corner of Q does: no common point.
pub beside_line_law : (a b : Point) (P Q : Shape) → Every (NotRight a b) P → Every (Right a b) Q → Share 2 P Q → ⊥
beside_line_law a b P Q near far = apart cs m (omega arith) (every_so below P near) (every_so above Q far)
  where
    cs : List ℤ
    cs = (coord 1 b -ℤ coord 1 a) ∷ (coord 0 a -ℤ coord 0 b) ∷ []

    m : ℤ
    m = coord 1 a *ℤ coord 0 b -ℤ coord 0 a *ℤ coord 1 b

    -- the functional at a point x, which is the opposite of the turn of a, b, x
    opposite : Ex
    opposite =
        (point 1 1 ⊟ point 0 1) ⊠ point 2 0 ⊞ ((point 0 0 ⊟ point 1 0) ⊠ point 2 1 ⊞ O) ⊞ (point 0 1 ⊠ point 1 0 ⊟ point 0 0 ⊠ point 1 1)

    below : (x : Point) → NotRight a b x → functional cs m x ≤ℤ pos 0
    below x = prove≤ (values (a ∷ b ∷ x ∷ [])) (not_right_e 0 1 2 ∷ []) opposite O (num 1) (hyp 0) tt tt refl

    above : (x : Point) → Right a b x → pos 0 <ℤ functional cs m x
    above x = prove< (values (a ∷ b ∷ x ∷ [])) (right_e 0 1 2 ∷ []) O opposite (num 1) (hyp 0) tt tt refl

-- ---- a line has no corner of a shape strictly right of it where
-- the shape is a segment on it, in either direction,
module _ (a b : Point) where
  abbrev ends : List ℤ
  ends = values (a ∷ b ∷ [])

  pub along : Every (NotRight a b) (a ∷ b ∷ [])
  along =
      (prove≤ ends [] O (turn_e 0 1 0) (num 1) (num 0) tt tt refl, (prove≤ ends [] O (turn_e 0 1 1) (num 1) (num 0) tt tt refl, tt))

  pub against : Every (NotRight b a) (a ∷ b ∷ [])
  against =
      (prove≤ ends [] O (turn_e 1 0 0) (num 1) (num 0) tt tt refl, (prove≤ ends [] O (turn_e 1 0 1) (num 1) (num 0) tt tt refl, tt))

-- and where it is an edge of a triangle that turns left. So what lies strictly right of one of its edges has no point in
-- common with the triangle.
module _ (a b c : Point) (left : Left a b c) where
  pub beside_first : (Q : Shape) → Every (Right a b) Q → Share 2 (a ∷ b ∷ c ∷ []) Q → ⊥
  beside_first Q = beside_line_law a b (a ∷ b ∷ c ∷ []) Q ((along a b).0, ((along a b).1.0, (weak left, tt)))

  pub beside_second : (Q : Shape) → Every (Right b c) Q → Share 2 (a ∷ b ∷ c ∷ []) Q → ⊥
  beside_second Q = beside_line_law b c (a ∷ b ∷ c ∷ []) Q (weak (left_on a b c left), along b c)

  pub beside_third : (Q : Shape) → Every (Right c a) Q → Share 2 (a ∷ b ∷ c ∷ []) Q → ⊥
  beside_third Q = beside_line_law c a (a ∷ b ∷ c ∷ []) Q ((along c a).1.0, (weak (left_back a b c left), ((along c a).0, tt)))
