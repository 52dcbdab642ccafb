-- What the bytes that are left of a sheet begin with, exactly in the case that document 02 states for it: `HeadCase` is the table, `head_exactly`
-- the theorem. Behind it stands what follows of a whole field and of a broken one. Assumes nothing.
use mathlib.Core.Path.{◌≡◌, refl, sym, ◌∙◌, subst, subst₂}
use mathlib.Core.Bool.{Bool, true, false, cond, true≢false}
use mathlib.Core.List.{List}
use mathlib.Core.Logic.{◌↔◌}
use Prim.Native.Nat.{ℕ, ◌+◌, ◌-◌, ◌≤◌, ◌<◌}
use native.Mathlib.Omega.{arith}
use borrow.Author.Tests.{eqb-true, eqb-false, ltb-true, ltb-false}
use lib.Dec.{eqb, ltb}
use lib.ListN.{length, get_or}
use Rattle.std.specs.Prelude.{Option, None, Some, Result, Ok, Err}
use Rattle.checks.specs.declared.answer.Reason.{Reason}
use Rattle.checks.specs.declared.answer.Reason.TheVariants.{UnknownField, CutField}
use Rattle.fields.specs.declared.heads.Field.{Field}
use Rattle.fields.specs.Tags.{number_of_tag, length_of, tag_numbered}
use Rattle.fields.specs.Fields.{tag_fits, size_of, field_in, head_of}
use Rattle.fields.proofs.FieldLaws
use Rattle.fields.proofs.FieldLaws.{at_end, cut_header, cut_body, whole}

-- ---- the table
-- The tags, and the length that belongs to each.
pub data TagLength : (tag size : ℕ) → Type 0 where
  place : TagLength 1 38
  lift : TagLength 2 1
  shift : TagLength 3 13
  undo : TagLength 4 0

-- The tag that a header names, and the length, belong together.
abbrev pub Fitting : List ℕ → Type 0
Fitting rest = TagLength (get_or rest 0 0) (size_of rest)

-- What goes with the bytes that are left. Each case says that no fault before it is there, and so the first wins.
pub data HeadCase (rest : List ℕ) : Result (Option Field) Reason → Type 0 where
  -- Nothing is left.
  none_left : length rest ≡ 0 → HeadCase rest (Ok None)
  -- 14: the sheet ends inside the header.
  header_ends : 0 < length rest → length rest < 3 → HeadCase rest (Err CutField)
  -- 13: unknown tag, or wrong length for the tag.
  misfit : 3 ≤ length rest → (Fitting rest → ⊥) → HeadCase rest (Err UnknownField)
  -- 14: the sheet ends inside the body.
  body_ends : 3 ≤ length rest → Fitting rest → length rest < 3 + size_of rest → HeadCase rest (Err CutField)
  -- A whole field.
  all_there : 3 ≤ length rest → Fitting rest → 3 + size_of rest ≤ length rest → HeadCase rest (Ok (Some (field_in rest)))

-- ---- tags: the test in the rule, and its words
tag_fits_law : {tag size : ℕ} → TagLength tag size → tag_fits tag size ≡ true
tag_fits_law place = refl
tag_fits_law lift = refl
tag_fits_law shift = refl
tag_fits_law undo = refl

fits_tag : (tag size : ℕ) → tag_fits tag size ≡ true → TagLength tag size
fits_tag tag size = cases (eqb tag 1) (eqb tag 2) (eqb tag 3) (eqb tag 4) refl refl refl refl
  where
    named : (n m : ℕ) → TagLength n m → eqb tag n ≡ true → eqb size m ≡ true → TagLength tag size
    named n m t e f = subst₂ TagLength (sym (eqb-true tag n e)) (sym (eqb-true size m f)) t

    cases : (a b c d : Bool) → eqb tag 1 ≡ a → eqb tag 2 ≡ b → eqb tag 3 ≡ c → eqb tag 4 ≡ d →
        cond a (eqb size 38) (cond b (eqb size 1) (cond c (eqb size 13) (cond d (eqb size 0) false))) ≡ true → TagLength tag size
    cases true b c d p q r s e = named 1 38 place p e
    cases false true c d p q r s e = named 2 1 lift q e
    cases false false true d p q r s e = named 3 13 shift r e
    cases false false false true p q r s e = named 4 0 undo s e
    cases false false false false p q r s e = absurd (true≢false (sym e))

unfit : (tag size : ℕ) → (TagLength tag size → ⊥) → tag_fits tag size ≡ false
unfit tag size never = by_test (tag_fits tag size) refl
  where
    by_test : (t : Bool) → tag_fits tag size ≡ t → t ≡ false
    by_test true e = absurd (never (fits_tag tag size e))
    by_test false e = refl

-- The tag with the number has that number, and the length.
number_law : {number size : ℕ} → TagLength number size → number ≡ number_of_tag (tag_numbered number)
number_law place = refl
number_law lift = refl
number_law shift = refl
number_law undo = refl

length_law : {number size : ℕ} → TagLength number size → size ≡ length_of (tag_numbered number)
length_law place = refl
length_law lift = refl
length_law shift = refl
length_law undo = refl

-- ---- the theorem
module _ (rest : List ℕ) where
  in_case : {h : Result (Option Field) Reason} → HeadCase rest h → head_of rest ≡ h
  in_case (none_left e) = at_end rest e
  in_case (header_ends some few) = cut_header rest (λ e. omega (arith, e, some)) few
  in_case (misfit header never) = FieldLaws.misfit rest header (unfit (get_or rest 0 0) (size_of rest) never)
  in_case (body_ends header fits few) =
      cut_body rest (tag_numbered (get_or rest 0 0)) header (sym (number_law fits)) (length_law fits) (omega (arith, few, header))
  in_case (all_there header fits room) =
      whole rest (tag_numbered (get_or rest 0 0)) header (sym (number_law fits)) (length_law fits) (omega (arith, room))

  some_case : HeadCase rest (head_of rest)
  unfolding head_of
  some_case =
      cases (eqb (length rest) 0) (ltb (length rest) 3) (tag_fits (get_or rest 0 0) (size_of rest)) (ltb (length rest - 3) (size_of rest)) refl refl refl refl
    where
      cases : (a b c d : Bool) → eqb (length rest) 0 ≡ a → ltb (length rest) 3 ≡ b → tag_fits (get_or rest 0 0) (size_of rest) ≡ c →
          ltb (length rest - 3) (size_of rest) ≡ d →
          HeadCase rest (cond a (Ok None) (cond b (Err CutField) (cond c (cond d (Err CutField) (Ok (Some (field_in rest)))) (Err UnknownField))))
      cases true b c d o p q r = none_left (eqb-true (length rest) 0 o)
      cases false true c d o p q r = header_ends (omega (arith, eqb-false (length rest) 0 o)) (ltb-true (length rest) 3 p)
      cases false false false d o p q r = misfit (ltb-false (length rest) 3 p) (λ fits. true≢false (sym (tag_fits_law fits) ∙ q))
      cases false false true true o p q r =
          body_ends (ltb-false (length rest) 3 p) (fits_tag _ _ q) (omega (arith, ltb-true (length rest - 3) (size_of rest) r, ltb-false (length rest) 3 p))
      cases false false true false o p q r =
          all_there (ltb-false (length rest) 3 p) (fits_tag _ _ q) (omega (arith, ltb-false (length rest - 3) (size_of rest) r, ltb-false (length rest) 3 p))

  pub head_exactly : {h : Result (Option Field) Reason} → HeadCase rest h ↔ (head_of rest ≡ h)
  head_exactly = (in_case, λ e. subst (HeadCase rest) e some_case)

-- ---- what follows of a whole field
pub record WholeField (rest : List ℕ) (field : Field) : Type 0 where
  pub number : get_or rest 0 0 ≡ number_of_tag field.tag
  pub fits : field.size ≡ length_of field.tag
  pub room : 3 + field.size ≤ length rest

abbrev Known : List ℕ → Result (Option Field) Reason → Type 0
Known rest (Ok (Some field)) = WholeField rest field
Known rest (Ok None) = Unit {0}
Known rest (Err why) = 0 < length rest

known : {rest : List ℕ} {h : Result (Option Field) Reason} → HeadCase rest h → Known rest h
known (none_left e) = tt
known (header_ends some few) = some
known (misfit header never) = omega (arith, header)
known (body_ends header fits few) = omega (arith, header)
known (all_there header fits room) = record { number = number_law fits; fits = length_law fits; room = room }

pub whole_field : (rest : List ℕ) {field : Field} → head_of rest ≡ Ok (Some field) → WholeField rest field
whole_field rest e = known ((head_exactly rest).1 e)

-- ---- a broken one is not nothing
pub broken_field : (rest : List ℕ) {why : Reason} → head_of rest ≡ Err why → 0 < length rest
broken_field rest e = known ((head_exactly rest).1 e)
