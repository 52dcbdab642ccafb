-- The tags of fields (document 02, Q-2): 1 place, 2 lift, 3 shift, 4 undo.
use Rattle.std.specs.Prelude.{◌≡◌, ◌≢◌, cond, ℕ, eqb, Result, MatchResult}
use Rattle.checks.specs.declared.answer.Reason.{Reason}
use Rattle.checks.specs.declared.answer.Reason.TheVariants.{UnknownField}
use Rattle.fields.specs.declared.tags.Tag.{Tag}
use Rattle.fields.specs.declared.tags.Tag.TheVariants.{Place, Lift, Shift, Undo}

-- The number of a tag,
abbrev pub number_of_tag : Tag → ℕ
number_of_tag Place = 1
number_of_tag Lift = 2
number_of_tag Shift = 3
number_of_tag Undo = 4

-- and the length of the body that belongs to it.
abbrev pub length_of : Tag → ℕ
length_of Place = 38
length_of Lift = 1
length_of Shift = 13
length_of Undo = 0

-- The tag with a number from 1 to 4.
abbrev pub tag_numbered : ℕ → Tag
tag_numbered number = cond (eqb number 1) Place (cond (eqb number 2) Lift (cond (eqb number 3) Shift Undo))

-- The tag with a number, or 13 where no tag has it.
abbrev pub Named : ℕ → Result Tag Reason → Type 0
Named number r = MatchResult r (λ tag. number_of_tag tag ≡ number) (λ why. (why ≡ UnknownField) × ((tag : Tag) → number_of_tag tag ≢ number))
