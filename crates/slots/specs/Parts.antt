-- The parts on a plate and when two of them clash (document 02, Q-4): when their skins meet, or when some corner of one is inside the other.
use Rattle.std.specs.Prelude.{◌≡◌, true, cond, List, [], ◌∷◌, ◌⊎◌, ℕ, ◌<◌, eqb, length, get_or}
use Rattle.shape.specs.Points.{Shape}
use Rattle.shape.specs.Inside.{Inside}
use Rattle.shape.specs.Shells.{corners_of}
use Rattle.slots.specs.Slots.{Slot, free, held, triangle, is_of, Clash}

-- Two skins meet: some slot of the one part clashes with some slot of the other. (So the skin of a part never meets itself.)
pub record SkinsMeet (S : List Slot) (p q : ℕ) : Type 0 where
  pub i : ℕ
  pub j : ℕ
  pub of_p : is_of p (get_or S i free) ≡ true
  pub of_q : is_of q (get_or S j free) ≡ true
  pub clash : Clash (get_or S i free) (get_or S j free)

-- The triangles of part q, by slot.
abbrev pub triangles_of : ℕ → List Slot → List Shape
triangles_of q [] = []
triangles_of q (free ∷ S) = triangles_of q S
triangles_of q (held p numbers ∷ S) = cond (eqb p q) (triangle numbers ∷ triangles_of q S) (triangles_of q S)

-- Some corner of part p is inside part q.
pub record CornerInside (S : List Slot) (p q : ℕ) : Type 0 where
  pub k : ℕ
  pub is_corner : k < length (corners_of (triangles_of p S))
  pub inside : Inside (get_or (corners_of (triangles_of p S)) k []) (triangles_of q S)

-- Some corner of one is inside the other.
abbrev pub EitherInside : List Slot → ℕ → ℕ → Type 0
EitherInside S p q = CornerInside S p q ⊎ CornerInside S q p

-- Two parts clash.
abbrev pub PartsClash : List Slot → ℕ → ℕ → Type 0
PartsClash S p q = SkinsMeet S p q ⊎ EitherInside S p q
