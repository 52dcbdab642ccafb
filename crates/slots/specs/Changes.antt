-- Changes of a plate, and what they do to the slots (document 01, "The plate's calls").
use Rattle.std.specs.Prelude.{cond, List, [], ◌∷◌, map, ℕ, eqb, ℤ, set, replicate}
use Rattle.shape.specs.Points.{moved}
use Rattle.slots.specs.Slots.{Slot, free, held}

pub data Change : Type 0 where
  place : (slot part : ℕ) (numbers : List ℤ) → Change
  lift : (slot : ℕ) → Change
  shift : (part : ℕ) (dx dy dz : ℤ) → Change

-- The steps by which the nine numbers of a triangle move: dx, dy, dz for each corner. (`moved_triangle` of proofs/Sliding.antt shows
-- that this moves the triangle, corner by corner.)
abbrev pub thrice : (dx dy dz : ℤ) → List ℤ
thrice dx dy dz = dx ∷ dy ∷ dz ∷ dx ∷ dy ∷ dz ∷ dx ∷ dy ∷ dz ∷ []

-- A slot after part q was moved: its numbers plus the steps, if it is of that part.
abbrev pub shifted : ℕ → List ℤ → Slot → Slot
shifted q by free = free
shifted q by (held p numbers) = cond (eqb p q) (held p (moved by numbers)) (held p numbers)

-- What a change does.
unfoldable pub apply : List Slot → Change → List Slot
apply S (place s q numbers) = set S s (held q numbers)
apply S (lift s) = set S s free
apply S (shift q dx dy dz) = map (shifted q (thrice dx dy dz)) S

-- The slots after these changes, the latest of which stands first: made one after the other, from 64 empty slots.
unfoldable pub replay : List Change → List Slot
replay [] = replicate 64 free
replay (c ∷ past) = apply (replay past) c
