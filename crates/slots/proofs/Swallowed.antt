-- A part that has a corner inside another, decided by signs: the decision says what specs/Parts.antt asks, whatever the slots are. Assumes nothing.
use mathlib.Core.Path.{◌≡◌}
use mathlib.Core.Bool.{Bool, true, false, cond}
use mathlib.Core.List.{List, [], ◌∷◌}
use Prim.Native.Nat.{ℕ}
use lib.Dec.{eqb}
use lib.ListN.{get_or}
use Rattle.shape.specs.Points.{Point}
use Rattle.shape.specs.Verdicts.{Says}
use Rattle.shape.specs.Inside.{Inside}
use Rattle.shape.specs.Shells.{corners_of}
use Rattle.shape.specs.InsideTest.{odd_ahead, corner_in}
use Rattle.shape.proofs.VerdictLaws.{says_yes, says_same, says_itself, says_fixed}
use Rattle.shape.proofs.ListLaws.{some_at, some_found}
use Rattle.shape.proofs.InsideTest.{Triangles, inside_says}
use Rattle.slots.specs.Slots.{Slot, free, held, triangle}
use Rattle.slots.specs.Parts.{triangles_of, CornerInside}

-- The shapes of a part are triangles.
triangles_of_law : (q : ℕ) (S : List Slot) → Triangles (triangles_of q S)
triangles_of_law q [] = tt
triangles_of_law q (free ∷ S) = triangles_of_law q S
triangles_of_law q (held p numbers ∷ S) = by_part (eqb p q) (triangles_of_law q S)
  where
    by_part : (b : Bool) → Triangles (triangles_of q S) → Triangles (cond b (triangle numbers ∷ triangles_of q S) (triangles_of q S))
    by_part true t = t
    by_part false t = t

pub corner_says : (S : List Slot) (p q : ℕ) → Says (corner_in (triangles_of p S) (triangles_of q S)) (CornerInside S p q)
corner_says S p q = says_same (to, from) (says_itself (corner_in (triangles_of p S) (triangles_of q S)))
  where
    corners : List Point
    corners = corners_of (triangles_of p S)

    test : Point → Bool
    test a = odd_ahead a (triangles_of q S)

    says : (a : Point) → Says (test a) (Inside a (triangles_of q S))
    says a = inside_says a (triangles_of q S) (triangles_of_law q S)

    to : corner_in (triangles_of p S) (triangles_of q S) ≡ true → CornerInside S p q
    to e =
        let found = some_found test [] corners e in
        record { k = found.i; is_corner = found.inside; inside = (says (get_or corners found.i [])).yes found.passes }

    from : CornerInside S p q → corner_in (triangles_of p S) (triangles_of q S) ≡ true
    from h = some_at test [] corners h.k h.is_corner (says_fixed (says (get_or corners h.k [])) (says_yes h.inside))
