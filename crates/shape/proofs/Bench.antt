-- Every row of the table of proved bench rows holds, of the definitions and not of any code: the tests in space, which are right on all
-- triangles, compute the verdict of a row. Assumes nothing.
use mathlib.Core.Path.{refl}
use Rattle.shape.specs.Bench.{AllHold, rows}
use Rattle.shape.proofs.WireTest.{segment_triangle_test_law, triangles_test_law}

-- Row after row.
infixr 4 ◌also◌
◌also◌ : {A B : Type 0} → A → B → A × B
◌also◌ a b = (a, b)

pub rows_hold : AllHold rows
rows_hold =
    triangles_test_law _ _ _ _ _ _
    also triangles_test_law _ _ _ _ _ _
    also triangles_test_law _ _ _ _ _ _
    also triangles_test_law _ _ _ _ _ _
    also triangles_test_law _ _ _ _ _ _
    also triangles_test_law _ _ _ _ _ _
    also triangles_test_law _ _ _ _ _ _
    also triangles_test_law _ _ _ _ _ _
    also segment_triangle_test_law _ _ _ _ _
    also (refl, refl)
    also (refl, refl)
    also triangles_test_law _ _ _ _ _ _
    also tt
