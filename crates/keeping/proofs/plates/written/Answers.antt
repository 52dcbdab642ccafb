-- `keeping::plates::written` meets its contract: the clashes of the slot are taken off the count before it is written and put on after.
-- Assumes nothing.
use Rattle.std.proofs.Common.{◌≡◌, set, get_or, ◌∙◌, rules}
use Rattle.slots.specs.Slots.{free}
use Rattle.slots.specs.Counting.{row}
use Rattle.slots.specs.Showing.{Shown}
use Rattle.slots.proofs.Counts.{write_count}
use Rattle.keeping.proofs.plates.written.Goals as goal

pub returns : goal.returns
returns c = record {
  is = λ {S} {j} {k} x h fit mark numbers.
      let i = c.args.slot in
      let r = c.recounted.result in
      let told = c.recounted.ensures in
      let before = told.before in
      let change = told.change in
      let after = told.after in
      let old = h.slots in
      let less : told.less ≡ row (get_or S i free) S = search rules in
      let shown : Shown (set S i x) r.slots.coords r.slots.marks = search rules in
      let more : told.more ≡ row (get_or (set S i x) i free) (set S i x) = search rules in
      record {
        slots = shown;
        journal = told.journal ∙ h.journal;
        reach = told.reach ∙ h.reach;
        count = told.count ∙ write_count S i x _ _ _ h.slots.fit.long c.requires.0 less more h.count;
      };
}
