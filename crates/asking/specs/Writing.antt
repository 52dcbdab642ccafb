-- The field of a call: the way back from Calls.antt, and from Fields.antt of crate `fields`.
use Rattle.std.specs.Prelude.{List, [], ◌∷◌, ◌++◌, ℕ, length}
use Rattle.slots.specs.Changes.{place, lift, shift}
use Rattle.plate.specs.Histories.{Call, change, undo}
use Rattle.packing.specs.Writing.{spread, bytes_of}
use Rattle.fields.specs.declared.tags.Tag.{Tag}
use Rattle.fields.specs.declared.tags.Tag.TheVariants.{Place, Lift, Shift, Undo}
use Rattle.fields.specs.Tags.{number_of_tag}

-- The tag of a call, and the body of its field.
abbrev pub tag_of : Call → Tag
tag_of (change (place slot part numbers)) = Place
tag_of (change (lift slot)) = Lift
tag_of (change (shift part dx dy dz)) = Shift
tag_of undo = Undo

abbrev pub body_for : Call → List ℕ
body_for (change (place slot part numbers)) = slot ∷ part ∷ bytes_of numbers
body_for (change (lift slot)) = slot ∷ []
body_for (change (shift part dx dy dz)) = part ∷ bytes_of (dx ∷ dy ∷ dz ∷ [])
body_for undo = []

-- The field: the number of the tag, the length of the body in two bytes, low byte first, and the body.
abbrev pub field_of : (tag : Tag) (body : List ℕ) → List ℕ
field_of tag body = number_of_tag tag ∷ spread 2 (length body) ++ body

abbrev pub written : Call → List ℕ
written c = field_of (tag_of c) (body_for c)
