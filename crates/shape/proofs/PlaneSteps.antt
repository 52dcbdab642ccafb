-- The step of the tests in the plane that puts a triangle in left-turn order, by itself. Assumes nothing.
use mathlib.Core.Bool.{Bool}
use mathlib.Core.List.{[], ◌∷◌}
use Rattle.shape.specs.Points.{Point, Shape}
use Rattle.shape.specs.Signs.{turn}
use Rattle.shape.specs.Sharing.{Share}
use Rattle.shape.specs.Verdicts.{Says}
use Rattle.shape.specs.PlaneTest.{in_left_order}
use Rattle.shape.proofs.Trading.{share_mirrored}
use Rattle.shape.proofs.VerdictLaws.{says_by_sign, says_same}
use Rattle.shape.proofs.Edges.{NotRight, Left, right_mirrored}

-- A test of triangles that turn left, asked of one that is not flat.
pub left_order_step : (P : Shape) (test : Point → Point → Point → Bool) →
    ((a b c : Point) → Left a b c → Says (test a b c) (Share 2 P (a ∷ b ∷ c ∷ []))) →
    (a b c : Point) → (NotRight a b c → Left a b c) → Says (in_left_order test a b c) (Share 2 P (a ∷ b ∷ c ∷ []))
left_order_step P test says a b c turns_left =
    says_by_sign (turn a b c)
    (λ h. says_same (share_mirrored P a b c) (says a c b (right_mirrored a b c h)))
    (λ h. says a b c (turns_left h))
