-- The vocabulary of the leaves in src/segments.rt and src/triangles.rt: parts of the decisions of crate `shape` (specs/WireTest.antt) that have a
-- function each.
use Rattle.std.specs.Prelude.{Bool, cond, [], ◌∷◌}
use Rattle.shape.specs.Points.{Point, coord}
use Rattle.shape.specs.Flat.{all_below, is_flat}
use Rattle.shape.specs.SpaceTest.{segment_in_plane_test}
use Rattle.shape.specs.WireTest.{stretches_meet, segments_test, either_edge, segment_triangle_test}

-- The stretches of two segments meet along each coordinate.
abbrev pub along_meet : (p q u v : Point) → Bool
along_meet p q u v = all_below 3 (λ k. stretches_meet (coord k p) (coord k q) (coord k u) (coord k v))

-- One of two edges of a triangle a b c meets the segment p q.
abbrev pub edges_meet : (p q a b c : Point) → Bool
edges_meet p q = either_edge (segments_test p q)

-- A segment p q in the plane of a triangle a b c, which may be flat.
abbrev pub level_test : (p q a b c : Point) → Bool
level_test p q a b c = cond (is_flat 3 (a ∷ b ∷ c ∷ [])) (edges_meet p q a b c) (segment_in_plane_test p q a b c)

-- One of two edges of the first triangle meets the second.
abbrev pub edge_meets : (p1 q1 r1 p2 q2 r2 : Point) → Bool
edge_meets p1 q1 r1 p2 q2 r2 = either_edge (λ a b. segment_triangle_test a b p2 q2 r2) p1 q1 r1
