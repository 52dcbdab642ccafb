-- `keeping::plates::changed` meets its contract: what stood in the slot is copied out and noted, and then the slot is written. Assumes nothing.
use Rattle.std.proofs.Common.{◌≡◌, suc, min, ◌∷◌, get_or, take, ◌∙◌, subst}
use Rattle.slots.specs.Slots.{free}
use Rattle.slots.proofs.Arrays.{mark_is, numbers_are}
use Rattle.keeping.specs.Journal.{slot_entry}
use Rattle.keeping.specs.Steps.{Shows}
use Rattle.keeping.specs.declared.journal.Entry.{Entry}
use Rattle.keeping.specs.declared.journal.Entry.TheVariants.{Stood}
use Rattle.keeping.proofs.plates.changed.Goals as goal

pub returns : goal.returns
returns c = record {
  is = λ {S} {j} {k} x h fit mark numbers.
      let i = c.args.slot in
      let stood = c.copy_from_slice.ensures.after ∙ c.numbers.ensures.value ∙ numbers_are h.slots i c.requires.0 in
      let kept : Stood i (get_or c.args.plate.slots.marks i 0) c.copy_from_slice.new.self ≡ slot_entry i (get_or S i free) =
      λ n. Stood i (mark_is h.slots i n) (stood n) in
      let noted = c.noted in
      let before = subst (λ (e : Entry). Shows S (e ∷ take 31 j) (min 32 (suc k)) noted.result) kept (noted.ensures.is h) in
      c.written.ensures.is x before fit mark numbers;
}
