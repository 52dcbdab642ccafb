-- `answering::answer::apply_field` meets its contract: the line has the number of the outcome and the true count. Assumes nothing.
use mathlib.Core.Path.{sym, ◌∙◌, subst}
use mathlib.Core.List.{◌∷◌}
use Prim.Native.Nat.{ℕ, ◌<◌}
use Rattle.plate.specs.Histories.{run}
use Rattle.asking.specs.Calls.{call_of}
use Rattle.answering.proofs.Small.{small_count, small_number}
use Rattle.answering.proofs.SheetLaws.{call_told, line_as}
use Rattle.answering.proofs.answer.apply_field.Goals as goal

pub put_line-end-requires : goal.put_line-end-requires
put_line-end-requires c =
    let st = c.requires.0 in
    -- What the call told.
    let t = call_told c.apply-answer.result c.apply-answer.ensures st.calls st.stands in
    let call = call_of c.args.tag c.args.body.now in (
      subst (λ (n : ℕ). n < 100) (sym (c.number_of.ensures ∙ t.0)) (small_number (run st.calls) call),
      small_count (call ∷ st.calls) t.1,
      c.requires.2,
    )

pub returns : goal.returns
returns c =
    record {
      kept = λ before st.
          -- What the call told, whatever calls made the plate.
          let t = call_told c.apply-answer.result c.apply-answer.ensures before st in
          let line = line_as c.apply-answer.result.plate.count c.put_line-end.ensures (c.number_of.ensures ∙ t.0) in
          record { stands = t.1; place = line.place; is = line.is };
    }
