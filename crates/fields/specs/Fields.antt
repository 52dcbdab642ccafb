-- The fields of a job sheet (document 02, Q-2): a tag of one byte, a length of two, low byte first, and a body.
use Rattle.std.specs.Prelude.{Bool, false, cond, List, ℕ, ◌+◌, ◌-◌, eqb, ltb, length, get_or, take, drop, Option, None, Some, Result, Ok, Err}
use Rattle.packing.specs.Reading.{low_first}
use Rattle.checks.specs.declared.answer.Reason.{Reason}
use Rattle.checks.specs.declared.answer.Reason.TheVariants.{UnknownField, CutField}
use Rattle.fields.specs.declared.heads.Field.{Field}
use Rattle.fields.specs.Tags.{tag_numbered}

-- The length that belongs to a tag: 1 place, 2 lift, 3 shift, 4 undo. No other tag has one.
abbrev pub tag_fits : (tag size : ℕ) → Bool
tag_fits tag size =
    cond (eqb tag 1) (eqb size 38) (cond (eqb tag 2) (eqb size 1) (cond (eqb tag 3) (eqb size 13) (cond (eqb tag 4) (eqb size 0) false)))

-- The length that a header names.
abbrev pub size_of : List ℕ → ℕ
size_of rest = low_first (take 2 (drop 1 rest))

-- The field that a header names.
abbrev pub field_in : List ℕ → Field
field_in rest = record { tag = tag_numbered (get_or rest 0 0); size = size_of rest }

-- What the bytes that are left begin with. A cut header is 14, then 13 is an unknown tag or a wrong length for it, then a cut body is 14.
unfoldable pub head_of : List ℕ → Result (Option Field) Reason
head_of rest =
    cond (eqb (length rest) 0) (Ok None)
    (cond (ltb (length rest) 3) (Err CutField)
    (cond (tag_fits (get_or rest 0 0) (size_of rest))
    (cond (ltb (length rest - 3) (size_of rest)) (Err CutField) (Ok (Some (field_in rest))))
    (Err UnknownField)))

-- The body of a field, and what is left behind it.
abbrev pub body_of : ℕ → List ℕ → List ℕ
body_of size rest = take size (drop 3 rest)

abbrev pub behind : ℕ → List ℕ → List ℕ
behind size rest = drop (3 + size) rest
