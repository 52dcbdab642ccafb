-- What slots answer that were asked where they lie on the grid: slots that accepted changes left always do. Assumes nothing.
use Rattle.std.proofs.Common.{◌≡◌, false, Option, Some, None, MatchOption, List, sym, subst}
use Rattle.checks.specs.Grid.{all_on}
use Rattle.slots.specs.Slots.{Slot}
use Rattle.slots.specs.Showing.{Shown}
use Rattle.slots.specs.declared.flat.Slots.{Slots}
use Rattle.slots.specs.declared.counting.GridSlots.{GridSlots}
use Rattle.slots.proofs.Grids.{never_off}

pub asked : {S : List Slot} {slots : Slots} → Shown S slots.coords slots.marks
    → (found : Option GridSlots) → MatchOption found (all_on slots.coords ≡ false) (λ on. on.slots.now ≡ slots)
    → (Off : Type 0) (Told : GridSlots → Type 0) → MatchOption found Off Told
    → {A : Type 0} {r v : A} → ((on : GridSlots) → Shown S on.slots.now.coords on.slots.now.marks → Told on → r ≡ v) → r ≡ v
asked h None off Off Told told answer = absurd (never_off h off)
asked {S} h (Some on) same Off Told told answer = answer on (subst (λ (s : Slots). Shown S s.coords s.marks) (sym same) h) told
