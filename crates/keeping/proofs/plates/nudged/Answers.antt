-- `keeping::plates::nudged` meets its contract: the clashes of the part are taken off the count before it moves and put on after.
-- Assumes nothing.
use Rattle.std.proofs.Common.{◌≡◌, ℕ, map, sym, ap, ◌∙◌, rules}
use Rattle.moving.specs.Moves.{steps}
use Rattle.slots.specs.Changes.{shifted}
use Rattle.slots.specs.Counting.{cross}
use Rattle.slots.specs.Showing.{Shown, PartMoved}
use Rattle.slots.proofs.Counts.{move_count, marks_shifted}
use Rattle.keeping.proofs.plates.nudged.Goals as goal

pub returns : goal.returns
returns c = record {
  is = λ {S} {j} {k} q h mark fit.
      let by = steps c.args.back c.args.by.now in
      let M = map (shifted q by) S in
      let p = c.args.plate in
      let r = c.recounted.result in
      let told = c.recounted.ensures in
      let before = told.before in
      let change = told.change in
      let after = told.after in
      let old = h.slots in
      let moved : PartMoved p.slots.coords p.slots.marks c.args.mark by r.slots.coords = search rules in
      let marks : r.slots.marks ≡ p.slots.marks = search rules in
      let shown : Shown M r.slots.coords r.slots.marks = record {
        fit = fit;
        coords_are = moved.is q h.slots mark fit;
        parts_are = marks ∙ h.slots.parts_are ∙ sym (marks_shifted q by S);
      } in
      let less : told.less ≡ cross c.args.mark S S = search rules in
      let more : told.more ≡ cross c.args.mark M M = search rules in
      record {
        slots = shown;
        journal = told.journal ∙ h.journal;
        reach = told.reach ∙ h.reach;
        count = told.count ∙ move_count q by S _ _ _ h.slots.fit.long (less ∙ ap (λ (n : ℕ). cross n S S) mark) (more ∙ ap (λ (n : ℕ). cross n M M) mark) h.count;
      };
}
