-- The order of the checks of a place: those that look at no slot come first and together. (It stands in a file of its own so that an edit of
-- it alone can be tried; Placing gives it on.) Assumes nothing.
use mathlib.Core.Path.{◌≡◌, sym, ap, ◌∙◌}
use mathlib.Core.List.{List}
use Prim.Native.Nat.{ℕ}
use lib.IntN.{ℤ}
use Rattle.checks.specs.Answers.{Check, ◌then◌}
use Rattle.checks.specs.Rules.{right_length, refuses_flat, shape_checks}
use Rattle.checks.proofs.AnswerLaws.{then_assoc}
use Rattle.slots.specs.Slots.{Slot}
use Rattle.slots.specs.Changes.{place}
use Rattle.reasons.specs.Rules.{slot_within, part_within, slot_free, change_checks}

-- The checks that look at no slot: 6, 7, 3, 1 and 2.
abbrev pub placing : (s q : ℕ) → List ℤ → Check
placing s q l = slot_within s then part_within 0 q then right_length 0 9 l then shape_checks refuses_flat 3 3 0 l

-- They come first, and then 8.
pub place_order : (S : List Slot) (s q : ℕ) (l : List ℤ) → change_checks S (place s q l) ≡ (placing s q l then slot_free S s)
unfolding change_checks
place_order S s q l =
    let shape = shape_checks refuses_flat 3 3 0 l in
    sym
    (then_assoc (slot_within s) (part_within 0 q then right_length 0 9 l then shape) (slot_free S s)
    ∙ ap (λ (c : Check). slot_within s then c) (then_assoc (part_within 0 q) (right_length 0 9 l then shape) (slot_free S s))
    ∙ ap (λ (c : Check). slot_within s then part_within 0 q then c) (then_assoc (right_length 0 9 l) shape (slot_free S s)))
