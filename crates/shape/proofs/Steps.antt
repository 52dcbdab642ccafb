-- Single steps of the laws, each read off one definition and none leaning on another: where a word of the definition is wrong, it is its own step that
-- falls. Assumes nothing.
use mathlib.Core.Path.{◌≡◌, sym, ◌∙◌}
use mathlib.Core.Bool.{Bool, false}
use mathlib.Core.List.{List, ◌∷◌}
use Prim.Native.Nat.{ℕ, suc, ◌<◌, ◌≤◌}
use native.Mathlib.Omega.{arith}
use lib.Dec.{eqb}
use lib.IntN.{pos, ◌*ℤ◌}
use lib.Signed.{◌≤ℤ◌, ◌<ℤ◌}
use Rattle.shape.specs.Points.{Point, Shape, coord}
use Rattle.shape.specs.Signs.{turn}
use Rattle.shape.specs.Flat.{all_below}
use Rattle.shape.specs.Sharing.{total, weigh, Share}
use Rattle.shape.specs.Inside.{Ahead}
use Rattle.shape.specs.Verdicts.{Says}
use Rattle.shape.specs.PlaneTest.{corner_in}
use Rattle.shape.specs.Shells.{Edge, reverse, occurs, each_once}
use Rattle.shape.proofs.VerdictLaws.{says_yes, says_by_sign, says_both, says_same}

-- A common point is one sum of weights in each coordinate of both shapes.
pub sums_agree : {n : ℕ} {P Q : Shape} (h : Share n P Q) (i : ℕ) → i < n → weigh (coord i) h.of_first.weights P ≡ weigh (coord i) h.of_second.weights Q
sums_agree h i l = h.of_first.mixed i l ∙ sym (h.of_second.mixed i l)

-- Some weight of it is not zero.
pub some_weight : {n : ℕ} {P Q : Shape} (h : Share n P Q) → 1 ≤ total h.of_first.weights
some_weight h = omega (arith, h.of_first.sum, h.of_first.some)

-- The point of a shape that is ahead of d has d's y.
pub ahead_y : {P : Shape} {d : Point} (h : Ahead P d) → coord 1 h.x ≡ pos h.s *ℤ coord 1 d
ahead_y h = h.same_y

-- One more test, of n, joins those of the numbers below n.
pub below_step : (n : ℕ) (F : ℕ → Type 0) (test : ℕ → Bool) → ((i : ℕ) → Says (test i) (F i)) → Says (all_below n test) ((i : ℕ) → i < n → F i) →
    (F n → ((i : ℕ) → i < n → F i) → (i : ℕ) → i < suc n → F i) → Says (all_below (suc n) test) ((i : ℕ) → i < suc n → F i)
below_step n F test says rest last_or_before =
    says_same ((λ h. last_or_before h.0 h.1), (λ h. (h n (omega arith), λ i l. h i (omega arith)))) (says_both (says n) rest)

-- Where p1 → q1 passes beyond p2, two signs decide.
pub corner_in_step : {Meet : Type 0} (p1 q1 r1 p2 : Point) →
    (turn p1 p2 r1 <ℤ pos 0 → Says false Meet) →
    (pos 0 ≤ℤ turn p1 p2 r1 → turn q1 r1 p2 <ℤ pos 0 → Says false Meet) →
    (pos 0 ≤ℤ turn p1 p2 r1 → pos 0 ≤ℤ turn q1 r1 p2 → Meet) →
    Says (corner_in p1 q1 r1 p2) Meet
corner_in_step {Meet} p1 q1 r1 p2 outside_r1p1 outside_q1r1 inside =
    says_by_sign (turn p1 p2 r1) outside_r1p1
    (λ within. says_by_sign (turn q1 r1 p2) (outside_q1r1 within) (λ h. says_yes (inside within h)))

-- An edge is asked, and its reverse, and the edges after it.
pub each_once_step : {A B C : Type 0} (e : Edge) (es all : List Edge) →
    Says (eqb (occurs e all) 1) A → Says (eqb (occurs (reverse e) all) 1) B → Says (each_once es all) C → Says (each_once (e ∷ es) all) (A × (B × C))
each_once_step e es all s t u = says_both s (says_both t u)
