-- Open edges: what keeps a shell from being closed (crate shape's specs/Shells.antt).
use Rattle.std.specs.Prelude.{Bool, true, not, cond, List, [], ◌∷◌, eqb}
use Rattle.shape.specs.Points.{Point, Shape}
use Rattle.shape.specs.Lists.{held_by}
use Rattle.shape.specs.Shells.{Edge, reverse, edges_of, occurs}
use Rattle.shells.specs.declared.closing.Corner.{Corner}
use Rattle.shells.specs.declared.closing.Edge.{Edge as EdgeHeld}

-- A corner and a directed edge as the code holds them.
abbrev pub corner : Corner → Point
corner a = a.x ∷ a.y ∷ a.z ∷ []

abbrev pub directed : EdgeHeld → Edge
directed e = (corner e.from, corner e.to)

-- Among the edges of these triangles this one does not occur once, or its reverse does not.
abbrev pub edge_open : List Shape → Edge → Bool
edge_open Ps e = cond (eqb (occurs e (held_by edges_of Ps)) 1) (not (eqb (occurs (reverse e) (held_by edges_of Ps)) 1)) true
