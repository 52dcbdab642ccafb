-- Tags and their lengths, and what the bytes that are left begin with, case by case. Assumes nothing.
use mathlib.Core.Path.{◌≡◌, refl, sym, ap, ◌∙◌, subst, subst₂}
use mathlib.Core.Bool.{true, false}
use mathlib.Core.List.{List}
use Prim.Native.Nat.{ℕ, ◌-◌, ◌≤◌, ◌<◌}
use native.Mathlib.Omega.{arith}
use borrow.Author.Tests.{eq-eqb, ne_eqb, lt-ltb, le-ltb}
use lib.ListN.{length, get_or}
use Rattle.std.specs.Prelude.{None, Some, Ok, Err}
use Rattle.checks.specs.declared.answer.Reason.TheVariants.{UnknownField, CutField}
use Rattle.fields.specs.declared.tags.Tag.{Tag}
use Rattle.fields.specs.declared.tags.Tag.TheVariants.{Place, Lift, Shift, Undo}
use Rattle.fields.specs.Tags.{number_of_tag, length_of, tag_numbered}
use Rattle.fields.specs.Fields.{tag_fits, size_of, head_of}

-- ---- tags
-- The tag with a tag's number is that tag.
pub numbered : (tag : Tag) → tag_numbered (number_of_tag tag) ≡ tag
numbered Place = refl
numbered Lift = refl
numbered Shift = refl
numbered Undo = refl

-- A length is that of a tag,
pub right_size : (tag : Tag) → tag_fits (number_of_tag tag) (length_of tag) ≡ true
right_size Place = refl
right_size Lift = refl
right_size Shift = refl
right_size Undo = refl

-- or not.
pub wrong_size : (tag : Tag) {size : ℕ} → (size ≡ length_of tag → ⊥) → tag_fits (number_of_tag tag) size ≡ false
wrong_size Place {size} other = ne_eqb size 38 other
wrong_size Lift {size} other = ne_eqb size 1 other
wrong_size Shift {size} other = ne_eqb size 13 other
wrong_size Undo {size} other = ne_eqb size 0 other

-- No tag has the number.
pub no_tag : {number : ℕ} (size : ℕ) → ((tag : Tag) → number_of_tag tag ≡ number → ⊥) → tag_fits number size ≡ false
no_tag {number} size none =
    rw (ne_eqb number 1 (λ e. none Place (sym e)), ne_eqb number 2 (λ e. none Lift (sym e)), ne_eqb number 3 (λ e. none Shift (sym e)), ne_eqb number 4 (λ e. none Undo (sym e)))

-- ---- what the bytes begin with
module _ (rest : List ℕ) where
  pub at_end : length rest ≡ 0 → head_of rest ≡ Ok None
  unfolding head_of
  at_end e = rw (eq-eqb (length rest) 0 e)

  pub cut_header : (length rest ≡ 0 → ⊥) → length rest < 3 → head_of rest ≡ Err CutField
  unfolding head_of
  cut_header some h = rw (ne_eqb (length rest) 0 some, lt-ltb (length rest) 3 h)

  pub misfit : 3 ≤ length rest → tag_fits (get_or rest 0 0) (size_of rest) ≡ false → head_of rest ≡ Err UnknownField
  unfolding head_of
  misfit header e =
      let some : length rest ≡ 0 → ⊥ = λ none. omega arith in
      rw (ne_eqb (length rest) 0 some, le-ltb (length rest) 3 header, e)

  pub unknown : 3 ≤ length rest → ((tag : Tag) → number_of_tag tag ≡ get_or rest 0 0 → ⊥) → head_of rest ≡ Err UnknownField
  unknown header none = misfit header (no_tag (size_of rest) none)

  module _ (tag : Tag) (header : 3 ≤ length rest) (named : number_of_tag tag ≡ get_or rest 0 0) where
    pub wrong : (size_of rest ≡ length_of tag → ⊥) → head_of rest ≡ Err UnknownField
    wrong other = misfit header (subst (λ (n : ℕ). tag_fits n (size_of rest) ≡ false) named (wrong_size tag other))

    module _ (sized : size_of rest ≡ length_of tag) where
      fits : tag_fits (get_or rest 0 0) (size_of rest) ≡ true
      fits = subst₂ (λ (n m : ℕ). tag_fits n m ≡ true) named (sym sized) (right_size tag)

      pub cut_body : length rest - 3 < size_of rest → head_of rest ≡ Err CutField
      unfolding head_of
      cut_body h =
          let some : length rest ≡ 0 → ⊥ = λ none. omega arith in
          rw (ne_eqb (length rest) 0 some, le-ltb (length rest) 3 header, fits, lt-ltb (length rest - 3) (size_of rest) h)

      pub whole : size_of rest ≤ length rest - 3 → head_of rest ≡ Ok (Some (record { tag = tag; size = size_of rest }))
      unfolding head_of
      whole h =
          let some : length rest ≡ 0 → ⊥ = λ none. omega arith in
          rw (ne_eqb (length rest) 0 some, le-ltb (length rest) 3 header, fits, le-ltb (length rest - 3) (size_of rest) h)
          (ap (λ (t : Tag). Ok (Some (record { tag = t; size = size_of rest }))) (ap tag_numbered (sym named) ∙ numbered tag))
