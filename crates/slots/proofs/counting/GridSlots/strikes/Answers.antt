-- `slots::counting::GridSlots::strikes` meets its contract: the marks decide, and where they leave it open the pair test does. Assumes nothing.
use Rattle.std.proofs.Common.{◌≡◌, false, sym, ◌∙◌, get_or, rules, tests}
use mathlib.Core.Logic.{inl, inr}
use Rattle.slots.specs.Slots.{free}
use Rattle.slots.specs.Counting.{strikes}
use Rattle.slots.proofs.Clashing.{strikes_sym}
use Rattle.slots.proofs.Counts.{strikes_free, strikes_same}
use Rattle.slots.proofs.Arrays.{mark_is}
use Rattle.slots.proofs.Grids.{nine_ready}
use Rattle.slots.proofs.Verdicts.{strikes_tested}
use Rattle.slots.proofs.counting.GridSlots.strikes.Goals as goal

pub triangles_meet-requires : goal.triangles_meet-requires
triangles_meet-requires c =
    let on = c.args.self in (
      nine_ready c.args.i on.slots.now.coords c.numbers.ensures.value c.numbers.ensures.len on.on,
      nine_ready c.args.j on.slots.now.coords c.numbers-then-p-q.ensures.value c.numbers-then-p-q.ensures.len on.on,
    )

pub returns-then-p-q : goal.returns-then-p-q
returns-then-p-q c = λ S h.
    strikes_tested h _ _ c.requires.0 c.requires.1 c.if-p-q.true.0 c.if-p-q.true.1 c.if-p-q.true.2 c.numbers.ensures.value c.numbers-then-p-q.ensures.value c.triangles_meet.ensures

pub returns-else-p-q : goal.returns-else-p-q
returns-else-p-q c = λ S h.
    let apart : strikes (get_or S c.args.i free) (get_or S c.args.j free) ≡ false = elim c.if-p-q.either [
      | inl w ↦ strikes_same _ _ (sym (mark_is h _) ∙ w.2 ∙ mark_is h _)
      | inr r ↦ elim r [
        | inl w ↦ strikes_sym _ _ ∙ strikes_free _ _ (sym (mark_is h _) ∙ w.1)
        | inr e ↦ strikes_free _ _ (sym (mark_is h _) ∙ e)
      ]
    ] in
    search (rules, tests) ∙ sym apart
