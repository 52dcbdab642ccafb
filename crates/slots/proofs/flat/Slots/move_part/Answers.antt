-- `slots::flat::Slots::move_part` meets its contract: the coordinates are those of the slots with the first i moved. Assumes nothing.
use Rattle.std.proofs.Common.{◌≡◌, ℕ, List, get_or, refl, sym, ap, ◌∙◌}
use Rattle.moving.specs.Moves.{steps}
use Rattle.slots.specs.Arrays.{flat}
use Rattle.slots.proofs.PartLaws.{begun_all, begun_more, slot_moved, slot_kept}
use Rattle.slots.specs.declared.flat.Slots.{Slots}
use Rattle.slots.proofs.flat.Slots.move_part.Goals as goal
use Rattle.slots.proofs.flat.Slots.move_part.Goals.{then-self-i, else-self-i}

pub loop-i-init : goal.loop-i-init
loop-i-init c = (refl, λ S q h e f. h.coords_are)

pub loop-i-preserved : goal.loop-i-preserved
loop-i-preserved c =
    let i = c.loop-i.i in
    let marks = c.args.self.now.marks in
    let by = steps c.args.back c.args.by.now in
    let kept = c.loop-i.invariant.0 in
    let begun = c.loop-i.invariant.1 in
    let mark : get_or c.loop-i.self.marks i 0 ≡ get_or marks i 0 = ap (λ (m : List ℕ). get_or m i 0) kept in
    elim c.if-self-i.branch [
      | then-self-i w ↦ (
        ap (λ (s : Slots). s.marks) w.self-is ∙ kept,
        λ S q h e f. ap (λ (s : Slots). s.coords) w.self-is
            ∙ begun_more q by h f i c.loop-i-test.true e (begun S q h e f)
            (slot_moved c.loop-i.self.coords marks i c.args.mark by c.loop-i-test.true (sym mark ∙ w.if-self-i.true) w.move_numbers.ensures),
      )
      | else-self-i w ↦ (
        ap (λ (s : Slots). s.marks) w.self-is ∙ kept,
        λ S q h e f. ap (λ (s : Slots). s.coords) w.self-is
            ∙ begun_more q by h f i c.loop-i-test.true e (begun S q h e f)
            (slot_kept c.loop-i.self.coords marks i c.args.mark by (λ same. w.if-self-i.false (mark ∙ same))),
      )
    ]

pub returns-clause-coords : goal.returns-clause-coords
returns-clause-coords c = record {
  is = λ {S} q h e f.
      let by = steps c.args.back c.args.by.now in
      c.loop-i.invariant.1 S q h e f ∙ ap flat (begun_all q by h f c.loop-i.i c.loop-i-test.false);
}
