-- `slots::flat::Slots::slot_leaves` meets its contract: a slot with another mark does not leave the grid, and of one with the mark the nine numbers
-- tell. Assumes nothing.
use Rattle.std.proofs.Common.{◌≡◌, sym, ap, ◌∙◌, not, suc, ne_eqb, List, ℤ, get_or}
use Rattle.checks.specs.Grid.{all_on}
use Rattle.shape.specs.Points.{moved}
use Rattle.slots.specs.Slots.{free}
use Rattle.slots.specs.Arrays.{mark_of}
use Rattle.slots.proofs.Sliding.{leaves_other, leaves_own}
use Rattle.slots.proofs.Arrays.{mark_is, numbers_are}
use Rattle.slots.proofs.flat.Slots.slot_leaves.Goals as goal

pub returns-then-self-i : goal.returns-then-self-i
returns-then-self-i c = λ S q h e.
    let i = c.args.i in
    let by = c.args.by.now in
    let x = get_or S i free in
    let own : mark_of x ≡ suc q = sym (mark_is h i) ∙ c.if-self-i.true ∙ e in
    ap not (c.stay_on.ensures ∙ ap (λ (l : List ℤ). all_on (moved by l)) (c.numbers.ensures.value ∙ numbers_are h i c.requires)) ∙ sym (leaves_own q by x own)

pub returns-else-self-i : goal.returns-else-self-i
returns-else-self-i c = λ S q h e.
    ne_eqb _ _ c.if-self-i.false ∙ sym (leaves_other q c.args.by.now (get_or S c.args.i free) (λ own. c.if-self-i.false (mark_is h c.args.i ∙ own ∙ sym e)))
