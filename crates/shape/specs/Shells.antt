-- Shells of triangles: their corners, and which of them are closed (document 02, Q-4): each directed edge occurs once and its reverse once. A triangle
-- a, b, c has the directed edges a → b, b → c and c → a. Edges are counted over all triangles of a part, and two are the same where their ends have
-- the same coordinates.
use Rattle.std.specs.Prelude.{Bool, true, false, cond, List, [], ◌∷◌, ℕ, suc, eqb, ◌-ℤ◌}
use Rattle.shape.specs.Points.{Point, Shape, coord}
use Rattle.shape.specs.Flat.{is_zero, all_below}
use Rattle.shape.specs.Lists.{held_by}

-- The corners of these triangles, one triangle after the other.
abbrev pub corners_of : List Shape → List Point
corners_of = held_by (λ P. P)

-- ---- directed edges
-- A directed edge: where it begins, and where it ends.
abbrev pub Edge : Type 0
Edge = Point × Point

abbrev pub reverse : Edge → Edge
reverse e = (e.1, e.0)

-- Two points of space have the same coordinates.
abbrev pub same_point : Point → Point → Bool
same_point a b = all_below 3 (λ i. is_zero (coord i b -ℤ coord i a))

abbrev pub same_edge : Edge → Edge → Bool
same_edge e f = cond (same_point e.0 f.0) (same_point e.1 f.1) false

-- The directed edges of a triangle.
abbrev pub edges_of : Shape → List Edge
edges_of [] = []
edges_of (a ∷ []) = []
edges_of (a ∷ b ∷ []) = []
edges_of (a ∷ b ∷ c ∷ []) = (a, b) ∷ (b, c) ∷ (c, a) ∷ []
edges_of (a ∷ b ∷ c ∷ d ∷ more) = []

-- ---- closed, as a test that computes: `closed_says` of proofs/Closed.antt shows that it tells the closed shells
-- How often an edge occurs in a list.
abbrev pub occurs : Edge → List Edge → ℕ
occurs e [] = 0
occurs e (f ∷ fs) = cond (same_edge e f) (suc (occurs e fs)) (occurs e fs)

-- Every edge of the first list occurs once in the second, and its reverse once.
abbrev pub each_once : List Edge → List Edge → Bool
each_once [] all = true
each_once (e ∷ es) all = cond (eqb (occurs e all) 1) (cond (eqb (occurs (reverse e) all) 1) (each_once es all) false) false

-- The shell of these triangles is closed.
abbrev pub is_closed : List Shape → Bool
is_closed Ps = each_once (held_by edges_of Ps) (held_by edges_of Ps)
