-- `fields::heads::head_of` meets its contract: the tests are those of the definition, in its order. Assumes nothing.
use mathlib.Core.Path.{◌≡◌, sym, ap, ◌∙◌}
use native.Mathlib.Omega.{arith}
use Rattle.std.specs.Prelude.{Ok, Some}
use Rattle.fields.specs.Fields.{size_of}
use Rattle.fields.specs.Tags.{length_of}
use Rattle.fields.proofs.FieldLaws.{wrong, cut_body, whole}
use Rattle.fields.proofs.heads.head_of.Goals as goal

pub returns-then-size : goal.returns-then-size
returns-then-size c =
    sym (wrong c.args.rest.now c.in_ok-tag.tag (omega arith) c.in_ok-tag.ensures (λ e. c.if-size.true (c.length_at-size.ensures ∙ e ∙ sym c.size.ensures)))

pub returns-then-rest-size : goal.returns-then-rest-size
returns-then-rest-size c =
    let rest = c.args.rest.now in
    let sized : size_of rest ≡ length_of c.in_ok-tag.tag = sym c.length_at-size.ensures ∙ c.if-size.false ∙ c.size.ensures in
    sym (cut_body rest c.in_ok-tag.tag (omega arith) c.in_ok-tag.ensures sized (omega arith))

pub returns : goal.returns
returns c =
    let rest = c.args.rest.now in
    let tag = c.in_ok-tag.tag in
    let sized : size_of rest ≡ length_of tag = sym c.length_at-size.ensures ∙ c.if-size.false ∙ c.size.ensures in
    ap (λ size. Ok (Some (record { tag = tag; size = size }))) c.length_at-size.ensures
    ∙ sym (whole rest tag (omega arith) c.in_ok-tag.ensures sized (omega arith))
