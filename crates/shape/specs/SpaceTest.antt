-- The tests in space as decisions by signs, by document 01's method (document 000, section 3): how a triangle stands to another's plane, what is
-- asked of two triangles then, and a segment and a triangle that is not flat. WireTest.antt puts them together, with the shapes that may be flat. No
-- public promise speaks of them; code computes them. proofs/SpaceTest.antt shows that each says yes exactly when the two shapes have a point in common.
use Rattle.std.specs.Prelude.{Bool, true, false, cond, List, [], ◌∷◌, ℕ, zero, suc, ◌+◌, ◌*◌, eqb, ltb, get_or}
use Rattle.shape.specs.Points.{Point, coord}
use Rattle.shape.specs.Signs.{side, sign, digit}
use Rattle.shape.specs.Normals.{normal_of, axis_of}
use Rattle.shape.specs.PlaneTest.{triangle_test, segment_test}

-- ---- the signs against a plane
-- The level of x over the plane of a, b, c: 0 where [a,b,c,x] is below zero, 1 where it is zero, 2 where it is above.
abbrev pub level : Point → Point → Point → Point → ℕ
level a b c x = digit (sign (side a b c x))

-- Whether [a,b,c,x] is above zero.
abbrev pub is_above : Point → Point → Point → Point → Bool
is_above a b c x = eqb (level a b c x) 2

-- The three signs of the corners p, q, r against the plane of a, b, c, read as a pattern from 0 to 26.
abbrev pub pattern : (p q r a b c : Point) → ℕ
pattern p q r a b c = 9 * level a b c p + 3 * level a b c q + level a b c r

-- ---- how a triangle stands to the other's plane
-- All corners strictly on one side; all on the plane; or one alone on its side. Then so many turns put that corner first, and
-- `swap` tells whether the last two corners of the other triangle have to trade places, so that its side is the non-negative one.
pub data Standing : Type 0 where
  beside : Standing
  within : Standing
  alone : (turns : ℕ) (swap : Bool) → Standing

-- The standing that each pattern names, nine to a line: the first corner below the plane, on it, above it. A single corner on
-- the plane is counted so that the first corner is the one alone where it can be; two on the plane are counted together.
abbrev pub standings : List Standing
standings =
    beside ∷ alone 2 false ∷ alone 2 false ∷ alone 1 false ∷ alone 0 true ∷ alone 0 true ∷ alone 1 false ∷ alone 0 true ∷ alone 0 true
    ∷ alone 0 false ∷ alone 1 true ∷ alone 1 true ∷ alone 2 true ∷ within ∷ alone 2 false ∷ alone 1 false ∷ alone 1 false ∷ alone 0 true
    ∷ alone 0 false ∷ alone 0 false ∷ alone 1 true ∷ alone 0 false ∷ alone 0 false ∷ alone 1 true ∷ alone 2 true ∷ alone 2 true ∷ beside ∷ []

abbrev pub standing : ℕ → Standing
standing n = get_or standings n beside

-- The verdict by a standing: beside the plane no; within it that of the flat test; else that of the corners in their new order.
abbrev pub by_standing : Standing → Bool → (ℕ → Bool → Bool) → Bool
by_standing beside in_plane crossing = false
by_standing within in_plane crossing = in_plane
by_standing (alone turns swap) in_plane crossing = crossing turns swap

-- Three corners turned so many times; their last two swapped or not; both.
abbrev pub turned : {C X : Type 0} → ℕ → (C → C → C → X) → C → C → C → X
turned zero f a b c = f a b c
turned (suc zero) f a b c = f b c a
turned (suc (suc n)) f a b c = f c a b

abbrev pub swapped : {C X : Type 0} → Bool → (C → C → C → X) → C → C → C → X
swapped false f a b c = f a b c
swapped true f a b c = f a c b

abbrev pub placed : {C X : Type 0} → ℕ → Bool → (C → C → C → X) → C → C → C → X
placed turns swap f = turned turns (swapped swap f)

-- ---- one plane
-- The point a with coordinate k left out: the two that are kept, in cyclic order.
abbrev pub kept_first : ℕ → ℕ
kept_first zero = 1
kept_first (suc zero) = 2
kept_first (suc (suc k)) = 0

abbrev pub kept_second : ℕ → ℕ
kept_second zero = 2
kept_second (suc zero) = 0
kept_second (suc (suc k)) = 1

abbrev pub without : ℕ → Point → Point
without k a = coord (kept_first k) a ∷ coord (kept_second k) a ∷ []

-- A coordinate at which the normal of a, b, c is not zero, z before y before x; 3 where there is none.
abbrev pub axis : Point → Point → Point → ℕ
axis a b c = axis_of (normal_of a b c)

-- Two triangles in the plane of the second: the flat test, without such a coordinate.
abbrev pub in_plane_without : ℕ → (p1 q1 r1 p2 q2 r2 : Point) → Bool
in_plane_without k p1 q1 r1 p2 q2 r2 =
    triangle_test (without k p1) (without k q1) (without k r1) (without k p2) (without k q2) (without k r2)

abbrev pub in_plane_test : (p1 q1 r1 p2 q2 r2 : Point) → Bool
in_plane_test p1 q1 r1 p2 q2 r2 = in_plane_without (axis p2 q2 r2) p1 q1 r1 p2 q2 r2

-- A segment p q in the plane of a, b, c.
abbrev pub segment_in_plane_without : ℕ → (p q a b c : Point) → Bool
segment_in_plane_without k p q a b c = segment_test (without k p) (without k q) (without k a) (without k b) (without k c)

abbrev pub segment_in_plane_test : (p q a b c : Point) → Bool
segment_in_plane_test p q a b c = segment_in_plane_without (axis a b c) p q a b c

-- ---- two triangles that each have a corner alone
-- The last two signs, where p1 and p2 are alone on the non-negative sides: no where one is above zero.
abbrev pub last_signs : (p1 q1 r1 p2 q2 r2 : Point) → Bool
last_signs p1 q1 r1 p2 q2 r2 = cond (is_above p1 q1 p2 q2) false (cond (is_above p1 r1 r2 p2) false true)

-- ---- a segment p q and a triangle a b c
-- p is the end at the higher level: no where the segment passes an edge on the outside.
abbrev pub past_no_edge : (p q a b c : Point) → Bool
past_no_edge p q a b c =
    cond (is_above p q a b) false (cond (is_above p q b c) false (cond (is_above p q c a) false true))

-- The verdict by the levels of the two ends: both strictly on one side no; both on the plane that of the flat test; else that of
-- the segment from its higher end.
abbrev pub by_ends : ℕ → ℕ → Bool → Bool → Bool → Bool
by_ends at_p atQ in_plane from_p from_q = cond (eqb at_p atQ) (cond (eqb at_p 1) in_plane false) (cond (ltb at_p atQ) from_q from_p)

abbrev pub segment_space_test : (p q a b c : Point) → Bool
segment_space_test p q a b c =
    by_ends (level a b c p) (level a b c q) (segment_in_plane_test p q a b c) (past_no_edge p q a b c) (past_no_edge q p a b c)
