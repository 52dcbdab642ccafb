-- `keeping::plates::restored` meets its contract: the slot of the entry gets back what stood there, or the part of the entry moves back.
-- Assumes nothing.
use Rattle.std.proofs.Common.{◌≡◌, true, List, map, get_or, sym, ap, ◌∙◌, subst, arith}
use lib.Seq.{set_out}
use Rattle.moving.specs.Moves.{steps}
use Rattle.slots.specs.Slots.{Slot, free}
use Rattle.slots.specs.Changes.{shifted, apply}
use Rattle.slots.specs.Showing.{Fit}
use Rattle.slots.proofs.Sliding.{part_back}
use Rattle.keeping.specs.Steps.{Shows}
use Rattle.keeping.proofs.Past.{put_back, at_slot, at_part}
use Rattle.keeping.proofs.plates.restored.Goals as goal

pub returns-in-Stood : goal.returns-in-Stood
returns-in-Stood c = record {
  is = λ S change {j} {k} fit e h.
      let stood = c.in-Stood in
      let i = stood.slot in
      let w = at_slot S change i stood.mark stood.numbers (sym stood.is ∙ e) in
      let now = subst (λ (T : List Slot). Shows T j k c.args.plate) w.is h in
      let back = c.written.ensures.is (get_or S i free) now (fit.each i) w.mark_was w.numbers_were in
      subst (λ (T : List Slot). Shows T j k c.written.result) (put_back S i w.new) back;
}

pub returns-in-Stood-2 : goal.returns-in-Stood-2
returns-in-Stood-2 c = record {
  is = λ S change {j} {k} fit e h.
      let stood = c.in-Stood in
      let i = stood.slot in
      let w = at_slot S change i stood.mark stood.numbers (sym stood.is ∙ e) in
      let outside = set_out S i w.new (omega (arith, fit.long, c.if-slot-lt64.false)) in
      subst (λ (T : List Slot). Shows T j k c.args.plate) (w.is ∙ outside) h;
}

pub returns-in-Shift : goal.returns-in-Shift
returns-in-Shift c = record {
  is = λ S change {j} {k} fit e h.
      let by = c.in-Shift.by in
      let w = at_part S change c.in-Shift.mark by (sym c.in-Shift.is ∙ e) in
      let there : map (shifted w.part (steps true by)) (apply S change) ≡ S =
      ap (map (shifted w.part (steps true by))) w.is ∙ part_back w.part by S fit.each w.long in
      let back = c.nudged.ensures.is w.part h w.mark_was (subst Fit (sym there) fit) in
      subst (λ (T : List Slot). Shows T j k c.nudged.result) there back;
}
