-- `answering::answer::write_lines` meets its contract: the lines so far are right, whatever lines follow them. Assumes nothing.
use mathlib.Core.Path.{◌≡◌, sym, ap, ◌∙◌, subst}
use mathlib.Core.List.{List}
use Prim.Native.Nat.{ℕ}
use borrow.Author.Rules.{rules}
use native.Mathlib.Omega.{arith}
use Rattle.std.specs.Prelude.{Ok, Err}
use Rattle.checks.specs.Answers.{number_of}
use Rattle.checks.specs.Reasons.{number_of_reason}
use Rattle.plate.specs.Histories.{Call, outcome, run}
use Rattle.plate.specs.Plates.{Stands}
use Rattle.plate.proofs.Outcomes.{shown}
use Rattle.fields.specs.Fields.{head_of}
use Rattle.fields.proofs.Table.{whole_field, broken_field}
use Rattle.asking.specs.Calls.{call_of}
use Rattle.answering.specs.Steps.{FieldPut}
use Rattle.answering.proofs.Small.{small_count, small_reason}
use Rattle.answering.proofs.SheetLaws.{line_as, ahead, begun, one_more, refused_put, stopped, ended, room_for_line}
use Rattle.answering.proofs.answer.write_lines.Goals as goal

pub loop-field-init : goal.loop-field-init
loop-field-init c = begun c.args.sheet.now c.args.out.now c.empty-plate.ensures

pub returns-in-Ok-None : goal.returns-in-Ok-None
returns-in-Ok-None c = ended c.loop-field.invariant (sym c.head_of.ensures ∙ c.in-Ok-None.is ∙ ap Ok c.in-Ok-None.field-0-is)

pub put_line-requires : goal.put_line-requires
put_line-requires c =
    let l = c.loop-field in
    let e : head_of l.rest.now ≡ Err c.in-Err.why = sym c.head_of.ensures ∙ c.in-Err.is in (
      omega (arith, c.number.ensures, small_reason c.in-Err.why),
      small_count l.invariant.calls l.invariant.stands,
      room_for_line l.invariant (broken_field l.rest.now e) c.requires.0 c.requires.1,
    )

pub returns-in-Err : goal.returns-in-Err
returns-in-Err c =
    let l = c.loop-field in
    let why = c.in-Err.why in
    let e : head_of l.rest.now ≡ Err why = sym c.head_of.ensures ∙ c.in-Err.is in
    stopped l.invariant why e (line_as l.plate.count c.put_line.ensures c.number.ensures)

pub body_and_behind-requires : goal.body_and_behind-requires
body_and_behind-requires c =
    (whole_field c.loop-field.rest.now (sym c.head_of.ensures ∙ c.in-Ok-Some.is ∙ ap Ok c.in-Ok-Some.field-0-is)).room

pub field_checked-requires : goal.field_checked-requires
field_checked-requires c =
    let a = ahead (sym c.head_of.ensures ∙ c.in-Ok-Some.is ∙ ap Ok c.in-Ok-Some.field-0-is) c.body_and_behind.ensures in
    search (rules, a.size)

pub apply_field-done-requires : goal.apply_field-done-requires
apply_field-done-requires c =
    let l = c.loop-field in
    let a = ahead (sym c.head_of.ensures ∙ c.in-Ok-Some.is ∙ ap Ok c.in-Ok-Some.field-0-is) c.body_and_behind.ensures in
    (record { calls = l.invariant.calls; stands = l.invariant.stands }, a.size, room_for_line l.invariant a.some c.requires.0 c.requires.1)

pub loop-field-smaller-in-Ok : goal.loop-field-smaller-in-Ok
loop-field-smaller-in-Ok c =
    let a = ahead (sym c.head_of.ensures ∙ c.in-Ok-Some.is ∙ ap Ok c.in-Ok-Some.field-0-is) c.body_and_behind.ensures in a.shorter

pub loop-field-preserved-in-Ok : goal.loop-field-preserved-in-Ok
loop-field-preserved-in-Ok c =
    let l = c.loop-field in
    let field = c.in-Ok-Some.field in
    let e = (sym c.head_of.ensures ∙ c.in-Ok-Some.is ∙ ap Ok c.in-Ok-Some.field-0-is) in
    let a = ahead e c.body_and_behind.ensures in
    let put = subst (λ (body : List ℕ). FieldPut l.plate (call_of field.tag body) l.out l.end c.apply_field-done.result c.apply_field-done.new.out)
    a.has c.apply_field-done.ensures in
    one_more l.invariant field e a.leaves put (room_for_line l.invariant a.some c.requires.0 c.requires.1)

pub put_line-end-requires : goal.put_line-end-requires
put_line-end-requires c =
    let l = c.loop-field in
    let a = ahead (sym c.head_of.ensures ∙ c.in-Ok-Some.is ∙ ap Ok c.in-Ok-Some.field-0-is) c.body_and_behind.ensures in
    let why = c.in-Err-field_checked.why in
    let number = c.number-in-Err-field_checked.ensures in (
      omega (arith, number, (small_reason why.reason).1),
      small_count l.invariant.calls l.invariant.stands,
      room_for_line l.invariant a.some c.requires.0 c.requires.1,
    )

pub loop-field-smaller : goal.loop-field-smaller
loop-field-smaller c =
    let a = ahead (sym c.head_of.ensures ∙ c.in-Ok-Some.is ∙ ap Ok c.in-Ok-Some.field-0-is) c.body_and_behind.ensures in a.shorter

pub loop-field-preserved : goal.loop-field-preserved
loop-field-preserved c =
    let l = c.loop-field in
    let field = c.in-Ok-Some.field in
    let e = (sym c.head_of.ensures ∙ c.in-Ok-Some.is ∙ ap Ok c.in-Ok-Some.field-0-is) in
    let a = ahead e c.body_and_behind.ensures in
    -- The number is that of the call's outcome, whatever calls made the plate.
    let told = λ (before : List Call) (st : Stands (run before) l.plate).
    c.in-Err-field_checked.ensures (run before) (shown before st).slots st.reach
    ∙ ap (λ (body : List ℕ). number_of (outcome (run before) (call_of field.tag body))) a.has in
    let why = c.in-Err-field_checked.why in
    let number = c.number-in-Err-field_checked.ensures in
    let put =
    refused_put {number = number_of_reason why.reason} (λ none. omega (arith, (small_reason why.reason).0)) told
    (line_as l.plate.count c.put_line-end.ensures number) in
    one_more l.invariant field e a.leaves put (room_for_line l.invariant a.some c.requires.0 c.requires.1)
